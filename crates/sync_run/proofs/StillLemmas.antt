-- Nothing waits on a side whose writes act at once.
use Rattle.std.proofs.Common.{◌≡◌, inl, inr, ℕ, Bool, true, false, ◌||◌, List, [], ◌∷◌, Option, ap, ◌∙◌}
use Rattle.store_model.specs.declared.store.StoreError.{StoreError}
use Rattle.store_model.specs.declared.store.StoreError.TheVariants as store
use Rattle.store_model.specs.Waits.{Change}
use Rattle.sync_plan.specs.declared.report.Side.{Side}
use Rattle.sync_plan.specs.declared.report.Side.TheVariants.{A, B}
use Rattle.sync_plan.specs.declared.dues.Step.{Step}
use Rattle.sync_plan.specs.declared.dues.Step.TheVariants as step
use Rattle.sync_plan.specs.declared.seen.Planned.{Planned}
use Rattle.side_reads.specs.declared.holding.Holding.{Holding}
use Rattle.job_writes.specs.declared.outcome.Outcome.{Outcome}
use Rattle.job_writes.specs.declared.outcome.Outcome.TheVariants as outcome
use Rattle.job_writes.specs.declared.phases.Outcomes.{Outcomes}
use Rattle.job_writes.specs.Writings.{SideNow, Sources, IsUnsent, NewFails, CopyDid, OverDid, RemovalDid, PutBy, PutDid, RemovalBy, RemovalDone, InOrder, WritesDid, is_failure, failed_after}

unsent_same : (ch : Change) (error : StoreError) (s t : SideNow) → IsUnsent ch error s t → t.waiting ≡ s.waiting
unsent_same ch store.Moved s t h = h.2
unsent_same ch store.Fault s t h = h.1
unsent_same ch store.NoMemory s t h = h.1
unsent_same ch store.TooLong s t h = absurd h
unsent_same ch store.TooMany s t h = absurd h
unsent_same ch store.NotThere s t h = absurd h
unsent_same ch (store.Vanished href) s t h = absurd h
unsent_same ch (store.BadItem href error) s t h = absurd h

new_same : (text : List ℕ) (error : StoreError) (s t : SideNow) → NewFails text error s t → t.waiting ≡ s.waiting
new_same text error s t (inl h) = h.0.1
new_same text error s t (inr (href, unsent)) = unsent_same _ error s t unsent

copy_same : (side : Side) (other : Holding) (place : Option ℕ) (s t : SideNow) (o : Outcome) → CopyDid false side other place s t o → t.waiting ≡ s.waiting
copy_same side other place s t (outcome.Written row) did = (did.answer.3).2
copy_same side other place s t (outcome.NotWritten at error) did = new_same did.item.text error s t did.answer.1
copy_same side other place s t outcome.Kept did = absurd did.answer
copy_same side other place s t outcome.Gone did = absurd did.answer
copy_same side other place s t outcome.Left did = absurd did.answer
copy_same side other place s t outcome.Conflict did = absurd did.answer
copy_same side other place s t (outcome.NotRemoved at error) did = absurd did.answer
copy_same side other place s t outcome.Skipped did = absurd did.answer

over_same : (side : Side) (own : Holding) (own_place : Option ℕ) (other : Holding) (place : Option ℕ) (s t : SideNow) (o : Outcome) → OverDid false side own own_place other place s t o → t.waiting ≡ s.waiting
over_same side own own_place other place s t (outcome.Written row) did = (did.answer.2).2
over_same side own own_place other place s t (outcome.NotWritten at error) did = unsent_same _ error s t did.answer.1
over_same side own own_place other place s t outcome.Kept did = absurd did.answer
over_same side own own_place other place s t outcome.Gone did = absurd did.answer
over_same side own own_place other place s t outcome.Left did = absurd did.answer
over_same side own own_place other place s t outcome.Conflict did = absurd did.answer
over_same side own own_place other place s t (outcome.NotRemoved at error) did = absurd did.answer
over_same side own own_place other place s t outcome.Skipped did = absurd did.answer

removal_same : (side : Side) (own : Holding) (own_place : Option ℕ) (s t : SideNow) (o : Outcome) → RemovalDid false side own own_place s t o → t.waiting ≡ s.waiting
removal_same side own own_place s t outcome.Gone did = did.answer.2
removal_same side own own_place s t (outcome.NotRemoved at error) did = unsent_same _ error s t did.answer.1
removal_same side own own_place s t outcome.Kept did = absurd did.answer
removal_same side own own_place s t (outcome.Written row) did = absurd did.answer
removal_same side own own_place s t outcome.Left did = absurd did.answer
removal_same side own own_place s t outcome.Conflict did = absurd did.answer
removal_same side own own_place s t (outcome.NotWritten at error) did = absurd did.answer
removal_same side own own_place s t outcome.Skipped did = absurd did.answer

at_rest : (s t : SideNow) → t ≡ s → t.waiting ≡ s.waiting
at_rest s t same = ap (λ (y : SideNow). y.waiting) same

put_same : (st : Step) (side : Side) (x : Sources) (p : Planned) (s t : SideNow) (o : Outcome) → PutBy st false side x p s t o → t.waiting ≡ s.waiting
put_same (step.CopyTo A) A x p s t o did = copy_same A x.b p.b s t o did
put_same (step.CopyTo B) B x p s t o did = copy_same B x.a p.a s t o did
put_same (step.CopyTo A) B x p s t o did = at_rest s t did
put_same (step.CopyTo B) A x p s t o did = at_rest s t did
put_same (step.WriteOver A) A x p s t o did = over_same A x.a p.a x.b p.b s t o did
put_same (step.WriteOver B) B x p s t o did = over_same B x.b p.b x.a p.a s t o did
put_same (step.WriteOver A) B x p s t o did = at_rest s t did
put_same (step.WriteOver B) A x p s t o did = at_rest s t did
put_same step.Forget side x p s t o did = at_rest s t did
put_same step.Keep side x p s t o did = at_rest s t did
put_same (step.RemoveFrom from) side x p s t o did = at_rest s t did
put_same step.HandOver side x p s t o did = at_rest s t did
put_same step.Conflict side x p s t o did = at_rest s t did
put_same (step.Held to) side x p s t o did = at_rest s t did

removed_same : (st : Step) (failed : Bool) (side : Side) (x : Sources) (p : Planned) (s t : SideNow) (o : Outcome) → RemovalBy st failed false side x p s t o → t.waiting ≡ s.waiting
removed_same (step.RemoveFrom from) true side x p s t o did = at_rest s t did
removed_same (step.RemoveFrom A) false A x p s t o did = removal_same A x.a p.a s t o did
removed_same (step.RemoveFrom B) false B x p s t o did = removal_same B x.b p.b s t o did
removed_same (step.RemoveFrom A) false B x p s t o did = at_rest s t did
removed_same (step.RemoveFrom B) false A x p s t o did = at_rest s t did
removed_same (step.CopyTo to) failed side x p s t o did = at_rest s t did
removed_same (step.WriteOver to) failed side x p s t o did = at_rest s t did
removed_same step.Forget failed side x p s t o did = at_rest s t did
removed_same step.Keep failed side x p s t o did = at_rest s t did
removed_same step.HandOver failed side x p s t o did = at_rest s t did
removed_same step.Conflict failed side x p s t o did = at_rest s t did
removed_same (step.Held to) failed side x p s t o did = at_rest s t did

order_same : (Did : Bool → Planned → SideNow → SideNow → Outcome → Type 0) → ((φ : Bool) (p : Planned) (s t : SideNow) (o : Outcome) → Did φ p s t o → t.waiting ≡ s.waiting) → (φ : Bool) (ps : List Planned) (os : List Outcome) (s t : SideNow) → InOrder Did φ ps os s t → t.waiting ≡ s.waiting
order_same Did same φ [] [] s t done = at_rest s t done
order_same Did same φ (p ∷ ps) (o ∷ os) s t (m, did, rest) = order_same Did same (φ || is_failure o) ps os m t rest ∙ same φ p s m o did
order_same Did same φ [] (o ∷ os) s t done = absurd done
order_same Did same φ (p ∷ ps) [] s t done = absurd done

pub nothing_waits : (side : Side) (x : Sources) (ps : List Planned) (s t : SideNow) (os : Outcomes) → WritesDid false side x ps s t os → t.waiting ≡ s.waiting
nothing_waits side x ps s t os did =
    order_same (RemovalDone false side x) (λ φ p s t o. removed_same p.step φ side x p s t o) (failed_after false os.put.items) ps os.removed.items did.between t did.removals
    ∙ order_same (λ φ. PutDid false side x) (λ φ p s t o. put_same p.step side x p s t o) false ps os.put.items s did.between did.puts
