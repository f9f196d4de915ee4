-- Jobs one after another: one job more, and all of them.
use Rattle.std.proofs.Common.{◌≡◌, ◌≢◌, ◌⊎◌, ◌+◌, ◌<◌, ◌≤◌, inl, inr, ℕ, zero, suc, Bool, true, false, List, [], ◌∷◌, ◌++◌, length, drop, get_or, refl, sym, ◌∙◌, ap, subst, append-nil, append_assoc, length-append, arith}
use Rattle.std.proofs.Math.ListN.{drop_of_length-le}
use Rattle.std.specs.List.{AllByRecursion}
use Rattle.config_model.proofs.Rests.{rest_is}
use Rattle.outside.specs.StreamCalls.{AddsFront}
use Rattle.outfits.specs.Places.{IsSame, StayTold}
use Rattle.sync_plan.specs.declared.report.Report.{Report}
use Rattle.cli_jobs.specs.declared.job.SyncJob.{SyncJob}
use Rattle.cli_text.specs.Texts.{report_text}
use Rattle.vdirsyncer_cli.specs.declared.printing.Cut.{Cut}
use Rattle.vdirsyncer_cli.specs.declared.printing.Cut.TheVariants.{Whole, WriteFault, Starved}
use Rattle.vdirsyncer_cli.specs.declared.jobs.Progress.{Progress}
use Rattle.vdirsyncer_cli.specs.Places.{Places}
use Rattle.vdirsyncer_cli.specs.Printing.{Prints}
use Rattle.vdirsyncer_cli.specs.Jobs.{JobAt}
use Rattle.vdirsyncer_cli.specs.JobLists.{job_to_run, MayRun, JobsRun, texts_of, PrintsOn, RunsNext, RunsNone, RanJobs}

-- ---- the places

-- what runs behind these jobs runs behind all of them
abbrev pub GoesOn : {O : Type 0} → (O → Places) → (O → List ℕ → Type 0) → Bool → O → O → List SyncJob → List SyncJob → List Report → Type 0
GoesOn {O} places tells force old now jobs left reports = (new : O) (more : List Report) → JobsRun places tells force now new left more → JobsRun places tells force old new jobs (reports ++ more)

goes_turn : {O : Type 0} (places : O → Places) (tells : O → List ℕ → Type 0) (force : Bool) (old now next : O) (jobs rest : List SyncJob) (job : SyncJob) (reports reports' : List Report) (report : Report) →
    GoesOn places tells force old now jobs (job ∷ rest) reports → JobAt (places now) (places next) (tells now) (tells next) (job_to_run force job) report → reports' ≡ reports ++ report ∷ [] → GoesOn places tells force old next jobs rest reports'
goes_turn places tells force old now next jobs rest job reports reports' report goes at same new more ran =
    subst (λ (l : List Report). JobsRun places tells force old new jobs l) (sym (ap (λ (l : List Report). l ++ more) same ∙ append_assoc reports (report ∷ []) more)) (goes new (report ∷ more) (next, at, ran))

goes_end : {O : Type 0} (places : O → Places) (tells : O → List ℕ → Type 0) (force : Bool) (old now new : O) (jobs left : List SyncJob) (reports : List Report) → GoesOn places tells force old now jobs left reports → IsSame (places now) (places new) → StayTold (tells now) (tells new) → JobsRun places tells force old new jobs reports
goes_end places tells force old now new jobs left reports goes same stay = subst (λ (l : List Report). JobsRun places tells force old new jobs l) (append-nil reports) (goes new [] (none_ran left))
  where
    none_ran : (left : List SyncJob) → JobsRun places tells force now new left []
    none_ran [] = (same, stay)
    none_ran (job ∷ rest) = (same, stay)

-- ---- the texts

no_texts : (jobs : List SyncJob) → texts_of jobs [] ≡ []
no_texts [] = refl
no_texts (job ∷ jobs) = refl

-- the texts of what runs behind these jobs stand behind theirs
abbrev pub SaysOn : List SyncJob → List SyncJob → List Report → Type 0
SaysOn jobs left reports = (more : List Report) → texts_of jobs (reports ++ more) ≡ texts_of jobs reports ++ texts_of left more

says_start : (jobs : List SyncJob) → SaysOn jobs jobs []
says_start jobs more = sym (ap (λ (t : List ℕ). t ++ texts_of jobs more) (no_texts jobs))

says_one : (jobs rest : List SyncJob) (job : SyncJob) (reports reports' : List Report) (report : Report) → SaysOn jobs (job ∷ rest) reports → reports' ≡ reports ++ report ∷ [] → texts_of jobs reports' ≡ texts_of jobs reports ++ report_text job.pair report
says_one jobs rest job reports reports' report says same =
    ap (texts_of jobs) same
    ∙ (says (report ∷ [])
    ∙ ap (λ (t : List ℕ). texts_of jobs reports ++ t) (ap (λ (t : List ℕ). report_text job.pair report ++ t) (no_texts rest) ∙ append-nil (report_text job.pair report)))

says_turn : (jobs rest : List SyncJob) (job : SyncJob) (reports reports' : List Report) (report : Report) → SaysOn jobs (job ∷ rest) reports → reports' ≡ reports ++ report ∷ [] → SaysOn jobs rest reports'
says_turn jobs rest job reports reports' report says same more =
    ap (λ (l : List Report). texts_of jobs (l ++ more)) same
    ∙ (ap (texts_of jobs) (append_assoc reports (report ∷ []) more)
    ∙ (says (report ∷ more)
    ∙ (sym (append_assoc (texts_of jobs reports) (report_text job.pair report) (texts_of rest more))
    ∙ ap (λ (t : List ℕ). t ++ texts_of rest more) (sym (says_one jobs rest job reports reports' report says same)))))

-- ---- printing

front_more : (old new text more : List ℕ) → AddsFront old new text → AddsFront old new (text ++ more)
front_more old new text more adds = record { front = adds.front; rest = adds.rest ++ more; is_front = ap (λ (t : List ℕ). t ++ more) adds.is_front ∙ append_assoc adds.front adds.rest more; adds = adds.adds }

front_behind : (old mid new text more : List ℕ) → mid ≡ old ++ text → AddsFront mid new more → AddsFront old new (text ++ more)
front_behind old mid new text more same adds =
    record {
      front = text ++ adds.front;
      rest = adds.rest;
      is_front = ap (λ (t : List ℕ). text ++ t) adds.is_front ∙ sym (append_assoc text adds.front adds.rest);
      adds = adds.adds ∙ (ap (λ (t : List ℕ). t ++ adds.front) same ∙ append_assoc old text adds.front);
    }

-- a text is printed behind others
prints_on : {S : Type 0} (count : S → ℕ) (tells : S → Type 0) (held : S → List ℕ) (old mid new : S) (text more : List ℕ) (cut cut' : Cut) → Prints count tells held old mid text cut → PrintsOn count tells held mid new more cut cut' → Prints count tells held old new (text ++ more) cut'
prints_on {S} count tells held old mid new text more Whole Whole first second =
    (omega (arith, first.0, second.0), λ told. let at = first.1 told in let on = second.1 at.0 in (on.0, on.1 ∙ (ap (λ (t : List ℕ). t ++ more) at.1 ∙ append_assoc (held old) text more)))
prints_on {S} count tells held old mid new text more Whole WriteFault first second =
    (omega (arith, first.0, second.0), omega (arith, first.0, second.1), λ told. let at = first.1 told in let on = second.2 at.0 in (on.0, front_behind (held old) (held mid) (held new) text more at.1 on.1))
prints_on {S} count tells held old mid new text more Whole Starved first second =
    (omega (arith, first.0, second.0), λ told. let at = first.1 told in let on = second.1 at.0 in (on.0, front_behind (held old) (held mid) (held new) text more at.1 on.1))
prints_on {S} count tells held old mid new text more WriteFault cut' first second =
    subst (λ (s : S). Prints count tells held old s (text ++ more) cut') (sym second.0)
    (subst (λ (c : Cut). Prints count tells held old mid (text ++ more) c) (sym second.1)
    (first.0, first.1, λ told. let at = first.2 told in (at.0, front_more (held old) (held mid) text more at.1)))
prints_on {S} count tells held old mid new text more Starved cut' first second =
    subst (λ (s : S). Prints count tells held old s (text ++ more) cut') (sym second.0)
    (subst (λ (c : Cut). Prints count tells held old mid (text ++ more) c) (sym second.1)
    (first.0, λ told. let at = first.1 told in (at.0, front_more (held old) (held mid) text more at.1)))

-- ---- all jobs

-- these jobs are left of all of them
pub record RanSoFar {O S : Type 0} (places : O → Places) (tells : O → List ℕ → Type 0) (force : Bool) (old now : O) (jobs left : List SyncJob) (count : S → ℕ) (shows : S → Type 0) (held : S → List ℕ) (out out' : S) (done : Progress) : Type 0 where
  pub goes : GoesOn places tells force old now jobs left done.reports.items
  pub says : SaysOn jobs left done.reports.items
  pub long : length done.reports.items + length left ≡ length jobs
  pub printed : Prints count shows held out out' (texts_of jobs done.reports.items) done.cut
  pub spoke : done.cut ≢ Starved

pub none_yet : {O S : Type 0} (places : O → Places) (tells : O → List ℕ → Type 0) (force : Bool) (old : O) (jobs : List SyncJob) (count : S → ℕ) (shows : S → Type 0) (held : S → List ℕ) (out : S) (done : Progress) → done.reports.items ≡ [] → done.cut ≡ Whole → RanSoFar places tells force old old jobs jobs count shows held out out done
none_yet places tells force old jobs count shows held out done none whole =
    record {
      goes = subst (λ (l : List Report). GoesOn places tells force old old jobs jobs l) (sym none) (λ new more ran. ran);
      says = subst (λ (l : List Report). SaysOn jobs jobs l) (sym none) (says_start jobs);
      long = omega (arith, ap length none);
      printed = subst (λ (c : Cut). Prints count shows held out out (texts_of jobs done.reports.items) c) (sym whole) (omega arith, λ told. (told, sym (ap (λ (t : List ℕ). held out ++ t) (ap (texts_of jobs) none ∙ no_texts jobs) ∙ append-nil (held out))));
      spoke = λ is. let clash : Whole ≡ Starved = sym whole ∙ is in cc;
    }

printed_next : {O S : Type 0} (places : O → Places) (tells : O → List ℕ → Type 0) (force : Bool) (old now next : O) (jobs rest : List SyncJob) (job : SyncJob) (count : S → ℕ) (shows : S → Type 0) (held : S → List ℕ) (out out' out'' : S) (before after : Progress) →
    RanSoFar places tells force old now jobs (job ∷ rest) count shows held out out' before → (next_ran : RunsNext places tells force now next job (PrintsOn count shows held out' out'') before after) → Prints count shows held out out'' (texts_of jobs after.reports.items) after.cut
printed_next places tells force old now next jobs rest job count shows held out out' out'' before after so_far ran =
    subst (λ (t : List ℕ). Prints count shows held out out'' t after.cut) (sym (says_one jobs rest job before.reports.items after.reports.items ran.report so_far.says ran.reports))
    (prints_on count shows held out out' out'' (texts_of jobs before.reports.items) (report_text job.pair ran.report) before.cut after.cut so_far.printed ran.printed)

-- one job more
pub turn : {O S : Type 0} (places : O → Places) (tells : O → List ℕ → Type 0) (force : Bool) (old now next : O) (jobs rest : List SyncJob) (job : SyncJob) (count : S → ℕ) (shows : S → Type 0) (held : S → List ℕ) (out out' out'' : S) (before after : Progress) →
    RanSoFar places tells force old now jobs (job ∷ rest) count shows held out out' before → RunsNext places tells force now next job (PrintsOn count shows held out' out'') before after → after.cut ≢ Starved → RanSoFar places tells force old next jobs rest count shows held out out'' after
turn places tells force old now next jobs rest job count shows held out out' out'' before after so_far ran spoke =
    record {
      goes = goes_turn places tells force old now next jobs rest job before.reports.items after.reports.items ran.report so_far.goes ran.ran ran.reports;
      says = says_turn jobs rest job before.reports.items after.reports.items ran.report so_far.says ran.reports;
      long = omega (arith, so_far.long, ap length ran.reports, length-append before.reports.items (ran.report ∷ []));
      printed = printed_next places tells force old now next jobs rest job count shows held out out' out'' before after so_far ran;
      spoke = spoke;
    }

-- no job is left
pub all_ran : {O S : Type 0} (places : O → Places) (tells : O → List ℕ → Type 0) (force : Bool) (old now : O) (jobs : List SyncJob) (count : S → ℕ) (shows : S → Type 0) (held : S → List ℕ) (out out' : S) (done : Progress) →
    RanSoFar places tells force old now jobs [] count shows held out out' done → RanJobs places tells force old now jobs (Prints count shows held out out') done
all_ran places tells force old now jobs count shows held out out' done so_far =
    record {
      ran = goes_end places tells force old now now jobs [] done.reports.items so_far.goes (λ q. refl) (λ q h. h);
      printed = so_far.printed;
      all = λ going. omega (arith, so_far.long);
      spoke = λ going. so_far.spoke;
    }

-- memory ran out at the next job: it ran, or it didn't
pub stopped : {O S : Type 0} (places : O → Places) (tells : O → List ℕ → Type 0) (force : Bool) (old now next : O) (jobs rest : List SyncJob) (job : SyncJob) (count : S → ℕ) (shows : S → Type 0) (held : S → List ℕ) (out out' out'' : S) (before after done : Progress) →
    RanSoFar places tells force old now jobs (job ∷ rest) count shows held out out' before →
    RunsNext places tells force now next job (PrintsOn count shows held out' out'') before after ⊎ RunsNone places tells now next out' out'' before after →
    done.reports.items ≡ after.reports.items → done.cut ≡ after.cut → done.is_starved ≡ true → RanJobs places tells force old next jobs (Prints count shows held out out'') done
stopped {O} {S} places tells force old now next jobs rest job count shows held out out' out'' before after done so_far how reports cut starved =
    record {
      ran = subst (λ (l : List Report). JobsRun places tells force old next jobs l) (sym reports) (ran how);
      printed = subst (λ (l : List Report). Prints count shows held out out'' (texts_of jobs l) done.cut) (sym reports) (subst (λ (c : Cut). Prints count shows held out out'' (texts_of jobs after.reports.items) c) (sym cut) (printed how));
      all = λ going. absurd (let clash : true ≡ false = sym starved ∙ going in cc);
      spoke = λ going. absurd (let clash : true ≡ false = sym starved ∙ going in cc);
    }
  where
    ran : RunsNext places tells force now next job (PrintsOn count shows held out' out'') before after ⊎ RunsNone places tells now next out' out'' before after → JobsRun places tells force old next jobs after.reports.items
    ran (inl one) = goes_end places tells force old next next jobs rest after.reports.items (goes_turn places tells force old now next jobs rest job before.reports.items after.reports.items one.report so_far.goes one.ran one.reports) (λ q. refl) (λ q h. h)
    ran (inr none) = subst (λ (l : List Report). JobsRun places tells force old next jobs l) (sym none.reports) (goes_end places tells force old now next jobs (job ∷ rest) before.reports.items so_far.goes none.same none.stay_told)

    printed : RunsNext places tells force now next job (PrintsOn count shows held out' out'') before after ⊎ RunsNone places tells now next out' out'' before after → Prints count shows held out out'' (texts_of jobs after.reports.items) after.cut
    printed (inl one) = printed_next places tells force old now next jobs rest job count shows held out out' out'' before after so_far one
    printed (inr none) =
        subst (λ (s : S). Prints count shows held out s (texts_of jobs after.reports.items) after.cut) (sym none.silent)
        (subst (λ (c : Cut). Prints count shows held out out' (texts_of jobs after.reports.items) c) (sym none.cut)
        (subst (λ (l : List Report). Prints count shows held out out' (texts_of jobs l) before.cut) (sym none.reports) so_far.printed))

-- ---- place by place

-- a job that is left is the first of those
pub at_job : {O S : Type 0} (places : O → Places) (tells : O → List ℕ → Type 0) (force : Bool) (old now : O) (jobs : List SyncJob) (i : ℕ) (job : SyncJob) (count : S → ℕ) (shows : S → Type 0) (held : S → List ℕ) (out out' : S) (done : Progress) →
    i < length jobs → job ≡ get_or jobs i job → RanSoFar places tells force old now jobs (drop i jobs) count shows held out out' done → RanSoFar places tells force old now jobs (job ∷ drop (i + 1) jobs) count shows held out out' done
at_job places tells force old now jobs i job count shows held out out' done within at so_far = subst (λ (left : List SyncJob). RanSoFar places tells force old now jobs left count shows held out out' done) (rest_is jobs i job within at) so_far

pub at_end : {O S : Type 0} (places : O → Places) (tells : O → List ℕ → Type 0) (force : Bool) (old now : O) (jobs : List SyncJob) (i : ℕ) (count : S → ℕ) (shows : S → Type 0) (held : S → List ℕ) (out out' : S) (done : Progress) →
    length jobs ≤ i → RanSoFar places tells force old now jobs (drop i jobs) count shows held out out' done → RanSoFar places tells force old now jobs [] count shows held out out' done
at_end places tells force old now jobs i count shows held out out' done past so_far = subst (λ (left : List SyncJob). RanSoFar places tells force old now jobs left count shows held out out' done) (drop_of_length-le jobs past) so_far

pub may_run_at : (jobs : List SyncJob) (i : ℕ) (job : SyncJob) → i < length jobs → job ≡ get_or jobs i job → AllByRecursion MayRun jobs → MayRun job
may_run_at [] i job within at all = absurd (omega arith)
may_run_at (one ∷ jobs) zero job within at all = subst MayRun (sym at) all.0
may_run_at (one ∷ jobs) (suc i) job within at all = may_run_at jobs i job (omega arith) at all.1
