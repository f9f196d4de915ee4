-- What a run that nothing disturbs takes a ready job to have is what the job has.
use Rattle.std.proofs.Common.{◌≡◌, ℕ, Bool, List, sym, ap, subst}
use Rattle.outside.specs.Runs.{Anything}
use Rattle.store_model.specs.Sides.{SideState, Since}
use Rattle.store_model.proofs.Moments.{Evolves-trans, Evolves-weaker, Since-from_evolves, outside_is_no_write}
use Rattle.status_keeper.specs.declared.row.Row.{Row}
use Rattle.status_keeper.specs.Kept.{KeeperState}
use Rattle.status_keeper.specs.Kept as status
use Rattle.sync_plan.specs.declared.report.Side.{Side}
use Rattle.sync_plan.specs.declared.report.Side.TheVariants.{A, B}
use Rattle.sync_plan.specs.Plans.{versions_of}
use Rattle.sync_plan.specs.Verdicts.{Versions}
use Rattle.job_runs.specs.Courses.{Course, IsCourse, IsRowAt}
use Rattle.job_runs.specs.Taken.{Took}
use Rattle.job_runs.specs.Jobs.{state_of, IsHonest, IsUntouched}
use Rattle.job_runs.proofs.TakenLemmas.{took_saw}
use Rattle.job_runs.proofs.SideLemmas.{saw_is_view}
use Rattle.job_reads.specs.declared.reading.ReadJob.{ReadJob}
use Rattle.job_reads.specs.Readings.{Span, span, IsRead, course_of_a, course_of_b}
use Rattle.job_reads.proofs.TookLemmas.{took}
use Rattle.sync_plan.specs.declared.report.Refusal.{Refusal}
use Rattle.sync_plan.specs.declared.report.Refusal.TheVariants.{SameLocation, Status, Storage, StorageEmpty, SameIdent}
use Rattle.sync_plan.specs.declared.report.Report.{Report}
use Rattle.sync_run.specs.Ends.{going, IsTwinned}
use Rattle.sync_run.specs.Quiet.{IsQuiet, IsDisturbed}
use Rattle.sync_run.specs.Ready.{course_on, IsReady}
use Rattle.sync_run.proofs.CalmLemmas.{calm_untouched}
use Rattle.sync_run.proofs.TwinLemmas.{no_twin}
use Rattle.sync_run.proofs.UnstoppedLemmas.{loaded_is}

-- what a side is when the run has read plays no part
abbrev read_at : Side → List Row → SideState → SideState → SideState → Course
read_at side rows entry read exit = record { side = side; rows = rows; entry = entry; read = read; exit = exit }

honest_at : (side : Side) (rows : List Row) (entry read exit : SideState) → IsHonest (course_on side rows entry exit) → IsHonest (read_at side rows entry read exit)
honest_at side rows entry read exit honest = record {
  etags = honest.etags;
  rows = record { each = λ ident version href etag m held row from until here same. (honest.rows).each ident version href etag m held (carried ident version href etag row) from until here same };
}
  where
    carried : (ident version href etag : List ℕ) → IsRowAt (read_at side rows entry read exit) ident version href etag → IsRowAt (course_on side rows entry exit) ident version href etag
    carried ident version href etag row = record { row = row.row; is_in = row.is_in; same_ident = row.same_ident; same_version = row.same_version; same_href = row.same_href; same_etag = row.same_etag }

module _ (force : Bool) (x : Span) (report : Report) (rows : List Row) (ready : IsReady force x rows) (quiet : IsQuiet x report) (calm : IsDisturbed x.k x.k_now → ⊥) (r : ReadJob) (k : KeeperState) (a b : SideState) (read : IsRead force (span x.k k x.a a x.b b) r) (later_k : status.Evolves Anything k x.k_now) (later_a : Since a x.a_now) (later_b : Since b x.b_now) where
  abbrev pub side_a : Course
  side_a = course_of_a (span x.k k x.a a x.b b) r x.a_now

  abbrev pub side_b : Course
  side_b = course_of_b (span x.k k x.a a x.b b) r x.b_now

  abbrev pub saw : List ℕ → Versions
  saw ident = versions_of ident r.a.seen.items r.b.seen.items r.rows.items

  abbrev pub had : List ℕ → Versions
  had ident = state_of x.a x.b rows ident

  pub same_status : k ≡ x.k
  same_status = (loaded_is r.rows rows calm read.load later_k ready.kept).0

  pub same_rows : r.rows.items ≡ rows
  same_rows = (loaded_is r.rows rows calm read.load later_k ready.kept).1

  pub course_a : IsCourse side_a
  course_a = record { reads = Evolves-trans (Evolves-weaker outside_is_no_write (read.reads_a).from) (read.reads_a).until; later = later_a }

  pub course_b : IsCourse side_b
  course_b = record { reads = Evolves-trans (Evolves-weaker outside_is_no_write (read.reads_b).from) (read.reads_b).until; later = later_b }

  pub honest_a : IsHonest side_a
  honest_a = subst (λ (l : List Row). IsHonest (read_at A l x.a a x.a_now)) (sym same_rows) (honest_at A rows x.a a x.a_now ready.honest_a)

  pub honest_b : IsHonest side_b
  honest_b = subst (λ (l : List Row). IsHonest (read_at B l x.b b x.b_now)) (sym same_rows) (honest_at B rows x.b b x.b_now ready.honest_b)

  pub untouched : (ident : List ℕ) → IsUntouched ident side_a side_b
  untouched ident = record {
    on_a = record { proper = (ready.side_a).proper ident; quiet = calm_untouched ident quiet.calm_a (Evolves-trans (Since-from_evolves (course_a).reads) later_a) };
    on_b = record { proper = (ready.side_b).proper ident; quiet = calm_untouched ident quiet.calm_b (Evolves-trans (Since-from_evolves (course_b).reads) later_b) };
  }

  pub took_a : (ident : List ℕ) → Took side_a ident (saw ident).a
  took_a ident = took side_a read.entries_a read.fetched_a read.reads_a r.a.seen.items r.a.items.items read.taken_a ident

  pub took_b : (ident : List ℕ) → Took side_b ident (saw ident).b
  took_b ident = took side_b read.entries_b read.fetched_b read.reads_b r.b.seen.items r.b.items.items read.taken_b ident

  pub same_state : (ident : List ℕ) → state_of x.a x.b r.rows.items ident ≡ had ident
  same_state ident = ap (λ (l : List Row). state_of x.a x.b l ident) same_rows

  pub saw_is : (ident : List ℕ) → saw ident ≡ had ident
  saw_is ident =
      let on_a : (saw ident).a ≡ (had ident).a = sym (saw_is_view ident side_a side_b (untouched ident).on_a course_a honest_a (saw ident).a (took_saw side_a ident (saw ident).a course_a (honest_a).rows (took_a ident))) in
      let on_b : (saw ident).b ≡ (had ident).b = sym (saw_is_view ident side_b side_a (untouched ident).on_b course_b honest_b (saw ident).b (took_saw side_b ident (saw ident).b course_b (honest_b).rows (took_b ident))) in
      let on_s : (saw ident).s ≡ (had ident).s = ap (λ (v : Versions). v.s) (same_state ident) in
      λ j. record { a = on_a j; b = on_b j; s = on_s j }

  -- no side has two items of one ident
  pub untwinned : (known_a known_b : Bool) (refusal : Refusal) → IsTwinned (going known_a known_b r k x.k_now a x.a_now b x.b_now) refusal → ⊥
  untwinned known_a known_b (SameIdent A ident first second) (refused, still) = no_twin side_a course_a (honest_a).rows quiet.calm_a read.entries_a read.fetched_a read.reads_a r.a.seen.items r.a.items.items read.taken_a (ready.side_a).proper ident first second refused
  untwinned known_a known_b (SameIdent B ident first second) (refused, still) = no_twin side_b course_b (honest_b).rows quiet.calm_b read.entries_b read.fetched_b read.reads_b r.b.seen.items r.b.items.items read.taken_b (ready.side_b).proper ident first second refused.1
  untwinned known_a known_b (Status error) at = absurd at
  untwinned known_a known_b (Storage side error) at = absurd at
  untwinned known_a known_b SameLocation at = absurd at
  untwinned known_a known_b (StorageEmpty side) at = absurd at
