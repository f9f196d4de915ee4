-- A run of a ready job that nothing disturbs ends clean, or by want of memory, or by rows whose text is too long.
use Rattle.std.proofs.Common.{◌≡◌, inl, inr, Bool, false, List, refl, sym, ap, ◌∙◌, subst}
use Rattle.outside.specs.Runs.{Anything}
use Rattle.outside.proofs.Runs.{Runs-refl}
use Rattle.store_model.specs.Sides.{SideState, Since}
use Rattle.store_model.proofs.Moments.{Evolves-refl}
use Rattle.status_keeper.specs.declared.row.Row.{Row}
use Rattle.status_keeper.specs.Kept.{KeeperState}
use Rattle.status_keeper.specs.Kept as status
use Rattle.sync_plan.specs.declared.rules.Rules.{Rules}
use Rattle.job_reads.specs.Readings.{Span}
use Rattle.sync_plan.specs.declared.report.Refusal.{Refusal}
use Rattle.sync_plan.specs.declared.report.Refusal.TheVariants.{SameLocation, Status, Storage, StorageEmpty, SameIdent}
use Rattle.sync_plan.specs.declared.report.JobEnd.{JobEnd}
use Rattle.sync_plan.specs.declared.report.JobEnd.TheVariants.{Synced, Refused, NotFlushed, NotCommitted, NoMemory}
use Rattle.sync_plan.specs.declared.report.Report.{Report}
use Rattle.sync_run.specs.Ends.{going, IsTwinned, GoesOn, RunsOn, IsJob}
use Rattle.sync_run.specs.Quiet.{IsQuiet, IsQuietEnd, EndsWell}
use Rattle.sync_run.specs.Ready.{IsReady, EndsReady}
use Rattle.sync_run.proofs.CleanLemmas.{synced_clean}
use Rattle.sync_run.proofs.EndingLemmas.{quiet_conflicts, quiet_end}
use Rattle.sync_run.proofs.SeenLemmas.{untwinned}
use Rattle.sync_run.proofs.UnstoppedLemmas.{unstopped}

module _ (force : Bool) (rules : Rules) (x : Span) (report : Report) (rows : List Row) (ready : IsReady force x rows) (quiet : IsQuiet x report) (end : IsQuietEnd x report) where
  not_twinned : (on : RunsOn force rules false false x report) (refusal : Refusal) → IsTwinned (going on.known_a on.known_b on.r on.k x.k_now on.a x.a_now on.b x.b_now) refusal → ⊥
  not_twinned on (SameIdent side ident first second) (refused, still) =
      let later_k : status.Evolves Anything on.k x.k_now = subst (λ (s : KeeperState). status.Evolves Anything on.k s) (sym still.0) (Runs-refl on.k) in
      let later_a : Since on.a x.a_now = subst (λ (s : SideState). Since on.a s) (sym still.1) (Evolves-refl on.a) in
      let later_b : Since on.b x.b_now = subst (λ (s : SideState). Since on.b s) (sym still.2) (Evolves-refl on.b) in
      untwinned force x report rows ready quiet end.calm_k on.r on.k on.a on.b on.read later_k later_a later_b on.known_a on.known_b (SameIdent side ident first second) (refused, still)
  not_twinned on SameLocation at = at
  not_twinned on (Status error) at = at
  not_twinned on (Storage side error) at = at
  not_twinned on (StorageEmpty side) at = at

  pub ready_end : IsJob force rules false false x report → EndsReady rules x rows report
  ready_end (inl stops) = inl (unstopped force x report rows ready quiet end.calm_k stops end)
  ready_end (inr on) = by report.end refl on.goes_on
    where
      well : EndsWell report.end
      well = quiet_end force rules x report (inr on) end

      by : (e : JobEnd) → report.end ≡ e → GoesOn rules false false (going on.known_a on.known_b on.r on.k x.k_now on.a x.a_now on.b x.b_now) report e → EndsReady rules x rows report
      by NoMemory is at = inl is
      by (Refused refusal) is at = absurd (not_twinned on refusal at.0)
      by (NotFlushed side error) is at = absurd (subst EndsWell is well)
      by (NotCommitted error) is at = let long = subst EndsWell is well in inr (inl (is ∙ ap NotCommitted long))
      by Synced is at = inr (inr (synced_clean force rules false false x report on.r on.k on.a on.b on.read on.known_a on.known_b at rows ready quiet end.calm_k (quiet_conflicts force rules false false x report (inr on) quiet) is))
