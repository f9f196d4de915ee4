-- Own writes and flushes read nothing.
use Rattle.std.proofs.Common.{◌≡◌, inl, inr, Bool, false, List, [], ◌∷◌, ap, ◌∙◌}
use Rattle.store_model.specs.declared.event.StoreEvent.TheVariants.{Wrote}
use Rattle.store_model.specs.Sides.{SideState, happens}
use Rattle.store_model.specs.Waits.{Change, new_at, over_at, gone_at, Acts, ActAll}
use Rattle.store_model.proofs.Moments.{outside_keeps_reads}
use Rattle.sync_plan.specs.declared.report.Side.{Side}
use Rattle.sync_plan.specs.declared.report.Side.TheVariants.{A, B}
use Rattle.sync_plan.specs.declared.dues.Step.{Step}
use Rattle.sync_plan.specs.declared.dues.Step.TheVariants as step
use Rattle.sync_plan.specs.declared.seen.Planned.{Planned}
use Rattle.job_writes.specs.Writings.{SideNow, now_of, Sources, Sends, PutSentBy, PutTried, RemovalSentBy, RemovalTried, AllTried, WritesTried, failed_after}
use Rattle.job_writes.proofs.OrderLemmas.{puts_tried}
use Rattle.job_traces.specs.Traces.{IsFlushed, WroteOn}

-- ---- changes that act

acts_reads : (ch : Change) (s t : SideState) → Acts ch s t → t.reads ≡ s.reads
acts_reads ch s t acts = outside_keeps_reads (acts.writes).after ∙ outside_keeps_reads (acts.writes).before

act_all_reads : (w : List Change) (s t : SideState) → ActAll w s t → t.reads ≡ s.reads
act_all_reads [] s t all = ap (λ (x : SideState). x.reads) all
act_all_reads (ch ∷ w) s t (old, new, fit, is_true, rest) = act_all_reads w (happens s (Wrote ch.href old new ch.sent)) t rest

flushed_reads : (s : SideNow) (exit : SideState) → IsFlushed s exit → exit.reads ≡ s.state.reads
flushed_reads s exit (inl outside) = outside_keeps_reads outside
flushed_reads s exit (inr flush) = outside_keeps_reads flush.after ∙ (act_all_reads s.waiting flush.first flush.last flush.all ∙ outside_keeps_reads flush.before)

-- ---- steps

sends_reads : (ch : Change) (s t : SideNow) → Sends ch s t → t.state.reads ≡ s.state.reads
sends_reads ch s t (inl (inl outside, same)) = outside_keeps_reads outside
sends_reads ch s t (inl (inr acts, same)) = acts_reads ch s.state t.state acts
sends_reads ch s t (inr (outside, same)) = outside_keeps_reads outside

same_reads : (s t : SideNow) → t ≡ s → t.state.reads ≡ s.state.reads
same_reads s t same = ap (λ (x : SideNow). x.state.reads) same

put_by_reads : (st : Step) (side : Side) (x : Sources) (p : Planned) (s t : SideNow) → PutSentBy st side x p s t → t.state.reads ≡ s.state.reads
put_by_reads (step.CopyTo A) A x p s t sent = sends_reads (new_at sent.href sent.item.text) s t sent.sends
put_by_reads (step.CopyTo B) B x p s t sent = sends_reads (new_at sent.href sent.item.text) s t sent.sends
put_by_reads (step.CopyTo A) B x p s t sent = absurd sent
put_by_reads (step.CopyTo B) A x p s t sent = absurd sent
put_by_reads (step.WriteOver A) A x p s t sent = sends_reads (over_at sent.over.href sent.over.etag sent.item.text) s t sent.sends
put_by_reads (step.WriteOver B) B x p s t sent = sends_reads (over_at sent.over.href sent.over.etag sent.item.text) s t sent.sends
put_by_reads (step.WriteOver A) B x p s t sent = absurd sent
put_by_reads (step.WriteOver B) A x p s t sent = absurd sent
put_by_reads step.Forget side x p s t sent = absurd sent
put_by_reads step.Keep side x p s t sent = absurd sent
put_by_reads (step.RemoveFrom from) side x p s t sent = absurd sent
put_by_reads step.HandOver side x p s t sent = absurd sent
put_by_reads step.Conflict side x p s t sent = absurd sent
put_by_reads (step.Held to) side x p s t sent = absurd sent

put_reads : (side : Side) (x : Sources) (p : Planned) (s t : SideNow) → PutTried side x p s t → t.state.reads ≡ s.state.reads
put_reads side x p s t (inl same) = same_reads s t same
put_reads side x p s t (inr sent) = put_by_reads p.step side x p s t sent

removal_by_reads : (st : Step) (side : Side) (x : Sources) (p : Planned) (s t : SideNow) → RemovalSentBy st side x p s t → t.state.reads ≡ s.state.reads
removal_by_reads (step.RemoveFrom A) A x p s t sent = sends_reads (gone_at sent.over.href sent.over.etag) s t sent.sends
removal_by_reads (step.RemoveFrom B) B x p s t sent = sends_reads (gone_at sent.over.href sent.over.etag) s t sent.sends
removal_by_reads (step.RemoveFrom A) B x p s t sent = absurd sent
removal_by_reads (step.RemoveFrom B) A x p s t sent = absurd sent
removal_by_reads (step.CopyTo to) side x p s t sent = absurd sent
removal_by_reads (step.WriteOver to) side x p s t sent = absurd sent
removal_by_reads step.Forget side x p s t sent = absurd sent
removal_by_reads step.Keep side x p s t sent = absurd sent
removal_by_reads step.HandOver side x p s t sent = absurd sent
removal_by_reads step.Conflict side x p s t sent = absurd sent
removal_by_reads (step.Held to) side x p s t sent = absurd sent

removal_reads : (side : Side) (x : Sources) (failed : Bool) (p : Planned) (s t : SideNow) → RemovalTried side x failed p s t → t.state.reads ≡ s.state.reads
removal_reads side x failed p s t (inl same) = same_reads s t same
removal_reads side x failed p s t (inr (none, sent)) = removal_by_reads p.step side x p s t sent

all_reads : (Tried : Planned → SideNow → SideNow → Type 0) → ((p : Planned) (s t : SideNow) → Tried p s t → t.state.reads ≡ s.state.reads) → (ps : List Planned) (s t : SideNow) → AllTried Tried ps s t → t.state.reads ≡ s.state.reads
all_reads Tried one [] s t same = same_reads s t same
all_reads Tried one (p ∷ ps) s t (m, first, rest) = all_reads Tried one ps m t rest ∙ one p s m first

tried_reads : (waits : Bool) (side : Side) (x : Sources) (ps : List Planned) (s t : SideNow) → WritesTried waits side x ps s t → t.state.reads ≡ s.state.reads
tried_reads waits side x ps s t (inl puts) = all_reads (PutTried side x) (put_reads side x) ps s t puts
tried_reads waits side x ps s t (inr tried) =
    all_reads (RemovalTried side x (failed_after false tried.put)) (removal_reads side x (failed_after false tried.put)) ps tried.between t tried.removals
    ∙ all_reads (PutTried side x) (put_reads side x) ps s tried.between (puts_tried waits side x ps tried.put s tried.between tried.puts)

-- what a run writes for its plan, and its flush, leave what was read
pub wrote_reads : (waits : Bool) (side : Side) (x : Sources) (plan : List Planned) (start exit : SideState) → WroteOn waits side x plan start exit → exit.reads ≡ start.reads
wrote_reads waits side x plan start exit wrote = flushed_reads wrote.end exit wrote.flush ∙ tried_reads waits side x plan (now_of start []) wrote.end wrote.tried
