-- A run of the program keeps the promise of its jobs, and where it is undisturbed over jobs that are ready it leaves each clean, or memory ran out.
use Rattle.std.proofs.Common.{◌≡◌, ◌≢◌, ◌⊎◌, ◌&&◌, ◌||◌, not, if◌then◌else◌, Bool, inl, inr, ℕ, true, false, List, [], ◌∷◌, ◌++◌, length, Option, Some, None, Result, Ok, Err, refl, sym, ◌∙◌, ap, subst, append-nil, arith}
use Rattle.outside.specs.Runs.{Leads, Runs}
use Rattle.outside.specs.Files as folders
use Rattle.outside.specs.Files.{FolderState}
use Rattle.outside.specs.declared.folder.FolderEvent.{FolderEvent}
use Rattle.outside.specs.declared.folder.FolderEvent.TheVariants as folder_event
use Rattle.outside.proofs.Runs.{KeepsEvents, Runs-refl, Runs-weaker, Runs-one, Runs-both, Runs-first}
use Rattle.sync_plan.specs.declared.report.Report.{Report}
use Rattle.sync_plan.specs.declared.report.Line.{Line}
use Rattle.sync_plan.specs.declared.report.JobEnd.{JobEnd}
use Rattle.sync_plan.specs.declared.report.JobEnd.TheVariants.{Synced, NoMemory}
use Rattle.sync_run.specs.Ready.{EndsClean}
use Rattle.sync_run.specs.Quiet.{IsQuiet, IsQuietEnd}
use Rattle.sync_run.proofs.StillRunLemmas.{lines_still, end_still}
use Rattle.sync_run.proofs.ReadyLemmas.{ready_end}
use Rattle.cli_jobs.specs.declared.job.SyncJob.{SyncJob}
use Rattle.outfits.specs.Children.{Children}
use Rattle.cli_words.specs.declared.words.Name.{Name}
use Rattle.config_model.specs.Reading.{config_of}
use Rattle.config_model.specs.declared.config.Config.{Config}
use Rattle.cli_jobs.specs.declared.refusal.Refusal.{Refusal}
use Rattle.cli_jobs.specs.Answers.{lifted}
use Rattle.cli_jobs.specs.Unfetched.{has_fetches}
use Rattle.config_fetch.specs.Filling.{World, IsStill, world}
use Rattle.vdirsyncer_cli.specs.declared.asked.Asked.{Asked}
use Rattle.vdirsyncer_cli.specs.declared.asked.Wanted.{Wanted}
use Rattle.vdirsyncer_cli.specs.declared.file_error.FileError.{FileError}
use Rattle.vdirsyncer_cli.specs.declared.file_error.FileError.TheVariants as file_error
use Rattle.vdirsyncer_cli.specs.declared.printing.Cut.{Cut}
use Rattle.vdirsyncer_cli.specs.declared.printing.Cut.TheVariants.{Whole, WriteFault, Starved}
use Rattle.vdirsyncer_cli.specs.ConfigRead.{FileSays, FileRead}
use Rattle.vdirsyncer_cli.specs.declared.job.Job.{Job}
use Rattle.vdirsyncer_cli.specs.Jobs.{IsQuietJob, Ran, JobAt, span_in}
use Rattle.vdirsyncer_cli.proofs.JobLaws.{job_in, keeps_promise}
use Rattle.vdirsyncer_cli.specs.Places.{Places, place_at}
use Rattle.vdirsyncer_cli.specs.Printing.{Prints, PrintsTo}
use Rattle.vdirsyncer_cli.specs.JobLists.{job_to_run, JobsRun, texts_of}
use Rattle.vdirsyncer_cli.specs.Settling.{Filling, SettlesConfig, jobs_in}
use Rattle.vdirsyncer_cli.specs.Runs.{Ended, Did, WordsRun, out_text, err_text, is_write_fault, status_of}
use Rattle.vdirsyncer_cli.specs.Runs.Ended.{WrongWords, HelpAsked, WordsRefused, FileRefused, ConfigRefused, OutOfMemory, JobsEnded, JobsStarved}
use Rattle.cli_text.specs.Texts.{report_text, ident_line, end_text}
use Rattle.cli_text.specs.Exits.{is_starved_end, is_starved, is_synced_end, is_clean, exit_status}
use Rattle.std.specs.List.{AllByRecursion, flat_map, list_all, list_any}
use Rattle.outside.specs.StreamCalls.{AddsFront}
use Rattle.vdirsyncer_cli.specs.Files.{folder_of, name_of}
use Rattle.vdirsyncer_cli.specs.CleanRuns.{IsInside, AllKept, IsKept, IsQuietReading, GivesBy, GivesJobs, IsCleanJob, AreCleanJobs, IsUndisturbed, AreLineless, AnswersBy, LeaveJobs, LeavesClean, PromisedRun, SinkIsStill, SinkIsSilent}

folder_keeps : KeepsEvents folders.happens
folder_keeps =
    record {
      trail_of = λ s. s.trail;
      reads_of = λ s. [];
      is_kept = λ e. true;
      is_read = λ e. false;
      trail_grows = λ s e. refl;
      reads_grow = λ s e. refl;
      either = λ e is. cc;
    }

-- no event comes from outside and from inside
no_events : {s t : FolderState} → Runs folders.happens folders.IsTrueEvent (λ e. IsInside e × folders.IsOutside e) s t → t ≡ s
no_events {s} {t} run = by s run.events run.leads
  where
    by : (s : FolderState) (es : List FolderEvent) → Leads folders.happens folders.IsTrueEvent (λ e. IsInside e × folders.IsOutside e) s es t → t ≡ s
    by s [] leads = leads
    by s (folder_event.Edited name old new ∷ es) leads = absurd leads.0.0
    by s (folder_event.Toggled ∷ es) leads = absurd leads.0.0
    by s (folder_event.Wrote name old new ∷ es) leads = absurd leads.0.1
    by s (folder_event.Read name bytes ∷ es) leads = absurd leads.0.1
    by s (folder_event.Made ∷ es) leads = absurd leads.0.1

unedited : {s m t : FolderState} → folders.Evolves IsInside s t → folders.Evolves folders.IsOutside s m → folders.Since m t → m ≡ s
unedited {s} {m} {t} whole edits later = no_events (Runs-both folder_keeps (Runs-first folder_keeps whole (Runs-weaker (λ e h. tt) edits) later) edits)

-- what the reading does to its folder is an event or nothing
says_later : (m t : FolderState) (name : List ℕ) (answer : Result (List ℕ) FileError) → FileSays m t name answer → folders.Since m t
says_later m t name (Ok bytes) file = subst (λ (x : FolderState). folders.Since m x) (sym file.was_read) (Runs-one m (folder_event.Read name bytes) tt file.stood)
says_later m t name (Err file_error.IsNotThere) says = subst (λ (x : FolderState). folders.Since m x) (sym says.0) (Runs-refl m)
says_later m t name (Err file_error.TooLong) says = subst (λ (x : FolderState). folders.Since m x) (sym says.0) (Runs-refl m)
says_later m t name (Err file_error.Fault) says = subst (λ (x : FolderState). folders.Since m x) (sym says) (Runs-refl m)
says_later m t name (Err file_error.NoMemory) says = subst (λ (x : FolderState). folders.Since m x) (sym says) (Runs-refl m)

-- an undisturbed reading meets the folder as it stood at entry
reads_at : (old now : Places) (tells : List ℕ → Type 0) (wanted : Wanted) (answer : Result (List ℕ) FileError) → IsQuietReading old now tells wanted → FileRead old now tells (folder_of wanted.file) (name_of wanted.file) answer →
    FileSays (place_at old (folder_of wanted.file)).state (place_at now (folder_of wanted.file)).state (name_of wanted.file) answer
reads_at old now tells wanted answer quiet read =
    let says = read.step.told quiet.told in
    let at : says.moment ≡ (place_at old (folder_of wanted.file)).state = unedited quiet.unedited says.edits (says_later says.moment (place_at now (folder_of wanted.file)).state (name_of wanted.file) answer says.does) in
    subst (λ (m : FolderState). FileSays m (place_at now (folder_of wanted.file)).state (name_of wanted.file) answer) at says.does

-- it isn't refused
not_refused : (old now : Places) (tells : List ℕ → Type 0) (wanted : Wanted) (error : FileError) → IsQuietReading old now tells wanted → FileRead old now tells (folder_of wanted.file) (name_of wanted.file) (Err error) → error ≢ file_error.NoMemory → ⊥
not_refused old now tells wanted error quiet read not_memory = by error not_memory (λ is. quiet.still (read.step.cause (ap Err is))) (reads_at old now tells wanted (Err error) quiet read)
  where
    by : (e : FileError) → e ≢ file_error.NoMemory → (e ≡ file_error.Fault → ⊥) → FileSays (place_at old (folder_of wanted.file)).state (place_at now (folder_of wanted.file)).state (name_of wanted.file) (Err e) → ⊥
    by file_error.IsNotThere not no_fault says = let clash : Some quiet.bytes ≡ None = sym quiet.stands ∙ says.1 in cc
    by file_error.TooLong not no_fault says =
        let same : Some quiet.bytes ≡ Some says.1.0 = sym quiet.stands ∙ says.1.1 in
        let one : quiet.bytes ≡ says.1.0 = cc in
        let len : length quiet.bytes ≡ length says.1.0 = ap length one in
        omega (arith, len, quiet.fits, says.1.2)
    by file_error.Fault not no_fault says = no_fault refl
    by file_error.NoMemory not no_fault says = not refl

-- a configuration that comes to jobs isn't refused
abbrev pub KeepsPlain : {W : Type 0} → Filling W → Type 0
KeepsPlain {W} Fills = (names : List Name) (home : Option (List ℕ)) (s t : W) (config : Config) (filled : Result Config Refusal) → has_fetches names config ≡ false → Fills names home s t config filled → filled ≡ Ok config

comes_to_its_jobs : {W : Type 0} (IsStill : W → W → Type 0) (Fills : Filling W) (wanted : Wanted) (s t : W) (config : Result Config Refusal) (answer : Result (List SyncJob) Refusal) (settles : SettlesConfig IsStill Fills wanted s t config answer) → KeepsPlain Fills → GivesJobs IsStill Fills wanted s t config answer settles → (jobs : List SyncJob) × (answer ≡ Ok jobs)
comes_to_its_jobs IsStill Fills wanted s t (Err r) answer settles plain gives = absurd gives
comes_to_its_jobs IsStill Fills wanted s t (Ok config) answer settles plain gives = by (has_fetches wanted.names config) refl gives
  where
    by : (has : Bool) → has_fetches wanted.names config ≡ has → GivesBy has wanted config settles.0 → (jobs : List SyncJob) × (answer ≡ Ok jobs)
    by true is gives = (gives.0, settles.2 ∙ gives.1)
    by false is gives = (gives.0, settles.2 ∙ (ap (jobs_in wanted) (plain wanted.names wanted.home s t config settles.0 is settles.1) ∙ gives.1))

front_of_nothing : (old new text : List ℕ) → text ≡ [] → AddsFront old new text → new ≡ old
front_of_nothing old new text none adds = by adds.front (sym adds.is_front ∙ none) adds.adds
  where
    by : (front : List ℕ) → front ++ adds.rest ≡ [] → new ≡ old ++ front → new ≡ old
    by [] e h = h ∙ append-nil old
    by (b ∷ bs) e h = absurd (let clash : b ∷ (bs ++ adds.rest) ≡ [] = e in cc)

-- a text that isn't there, printed to a sink that is still
printed_nothing : {S : Type 0} (count : S → ℕ) (tells : S → Type 0) (held : S → List ℕ) (old new : S) (text : List ℕ) (cut : Cut) → text ≡ [] → SinkIsStill count old new → Prints count tells held old new text cut → SinkIsSilent tells held old new
printed_nothing count tells held old new text Whole none still prints told = (prints.1 told).1 ∙ (ap (λ (l : List ℕ). held old ++ l) none ∙ append-nil (held old))
printed_nothing count tells held old new text WriteFault none still prints told = absurd (still prints.1)
printed_nothing count tells held old new text Starved none still prints told = front_of_nothing (held old) (held new) text none (prints.1 told).1

no_write_fault : {S : Type 0} (count : S → ℕ) (tells : S → Type 0) (held : S → List ℕ) (old new : S) (text : List ℕ) (cut : Cut) → SinkIsStill count old new → Prints count tells held old new text cut → cut ≡ WriteFault → ⊥
no_write_fault count tells held old new text Whole still prints is = cc
no_write_fault count tells held old new text WriteFault still prints is = still prints.1
no_write_fault count tells held old new text Starved still prints is = cc

-- a run in which no count of faults rises, and to which no edit from outside comes, is quiet
quiet_by : (between new : Places) (tells tells' : List ℕ → Type 0) (job : Job) (report : Report) → Ran between new tells tells' job report → IsQuietJob between new job → IsQuiet (span_in between new job) report
quiet_by between new tells tells' job report ran quiet = record { calm_a = quiet.calm_a; calm_b = quiet.calm_b; told = lines_still _ _ _ quiet.still_a quiet.still_b quiet.still_s report.lines.items ran.step.lines }

quiet_end_by : (between new : Places) (tells tells' : List ℕ → Type 0) (job : Job) (report : Report) → Ran between new tells tells' job report → IsQuietJob between new job → IsQuietEnd (span_in between new job) report
quiet_end_by between new tells tells' job report ran quiet = record { calm_k = quiet.calm_s; cause = end_still _ _ _ quiet.still_a quiet.still_b quiet.still_s report.end ran.step.cause }

-- the job of an undisturbed run is clean, or memory ran out
job_is_clean : (between new : Places) (tells tells' : List ℕ → Type 0) (job : Job) (report : Report) → JobAt between new tells tells' job report → (clean : IsCleanJob between new tells job report) →
    (report.end ≡ NoMemory) ⊎ EndsClean (job.order).rules (span_in between new job) clean.rows report
job_is_clean between new tells tells' job report (inr same) clean = absurd (clean.apart same.same)
job_is_clean between new tells tells' job report (inl ran) clean =
    elim (ready_end (job.order).force_delete (job.order).rules (span_in between new job) report clean.rows clean.ready (quiet_by between new tells tells' job report ran clean.quiet) (quiet_end_by between new tells tells' job report ran clean.quiet) (job_in between new tells tells' job report ran clean.told)) [
      | inl starved ↦ inl starved
      | inr (inl long) ↦ absurd (clean.rows_fit long)
      | inr (inr ends) ↦ inr ends
    ]

-- ---- all jobs

-- memory ended one, or each is in sync
abbrev AreSynced : List Report → Type 0
AreSynced reports = AllByRecursion (λ report. report.end ≡ Synced) reports

starved_any : (report : Report) (reports : List Report) → report.end ≡ NoMemory → list_any is_starved (report ∷ reports) ≡ true
starved_any report reports end = ap (λ (e : JobEnd). is_starved_end e || list_any is_starved reports) end

later_any : (report : Report) (reports : List Report) → list_any is_starved reports ≡ true → list_any is_starved (report ∷ reports) ≡ true
later_any report reports later = ap (λ (b : Bool). is_starved report || b) later ∙ or_true (is_starved report)
  where
    or_true : (b : Bool) → (b || true) ≡ true
    or_true true = refl
    or_true false = refl

-- each job of an undisturbed run is clean, or memory ended one
pub record AllClean {O : Type 0} (places : O → Places) (tells : O → List ℕ → Type 0) (force : Bool) (old new : O) (jobs : List SyncJob) (reports : List Report) (ran : JobsRun places tells force old new jobs reports) : Type 0 where
  pub synced : AreSynced reports
  pub leave : LeaveJobs places tells force old new jobs reports ran

jobs_are_clean : {O : Type 0} (places : O → Places) (tells : O → List ℕ → Type 0) (force : Bool) (old new : O) (jobs : List SyncJob) (reports : List Report) (ran : JobsRun places tells force old new jobs reports) → AreCleanJobs places tells force old new jobs reports ran →
    (list_any is_starved reports ≡ true) ⊎ AllClean places tells force old new jobs reports ran
jobs_are_clean places tells force old new [] [] ran clean = inr (record { synced = tt; leave = tt })
jobs_are_clean places tells force old new (job ∷ jobs) [] ran clean = inr (record { synced = tt; leave = tt })
jobs_are_clean places tells force old new [] (report ∷ reports) ran clean = absurd ran
jobs_are_clean places tells force old new (job ∷ jobs) (report ∷ reports) ran clean =
    elim (job_is_clean (places old) (places ran.0) (tells old) (tells ran.0) (job_to_run force job) report ran.1 clean.0) [
      | inl starved ↦ inl (starved_any report reports starved)
      | inr ends ↦ elim (jobs_are_clean places tells force ran.0 new jobs reports ran.2 clean.1) [
        | inl later ↦ inl (later_any report reports later)
        | inr all ↦ inr (record { synced = (ends.synced, all.synced); leave = (((clean.0).rows, ((clean.0).ready).kept, ends), all.leave) })
      ]
    ]

-- ---- the exit status

none_starved : (reports : List Report) → AreSynced reports → list_any is_starved reports ≡ false
none_starved [] synced = refl
none_starved (report ∷ reports) synced = ap (λ (e : JobEnd). is_starved_end e || list_any is_starved reports) synced.0 ∙ none_starved reports synced.1

-- lines there are none, or some
no_lines_or : (lines : List Line) → (lines ≡ []) ⊎ (lines ≢ [])
no_lines_or [] = inl refl
no_lines_or (line ∷ lines) = inr (λ is. let clash : line ∷ lines ≡ [] = is in cc)

lineless_or : (reports : List Report) → AreLineless reports ⊎ (AreLineless reports → ⊥)
lineless_or [] = inl tt
lineless_or (report ∷ reports) = elim (no_lines_or report.lines.items) [
  | inl none ↦ elim (lineless_or reports) [ inl all ↦ inl (none, all) | inr some ↦ inr (λ all. some all.1) ]
  | inr some ↦ inr (λ all. some all.0)
]

clean_end : (end : JobEnd) (lines : List Line) → end ≡ Synced → lines ≡ [] → is_synced_end end lines ≡ true
clean_end end lines synced none = ap (λ (e : JobEnd). is_synced_end e lines) synced ∙ ap (λ (l : List Line). is_synced_end Synced l) none

told_end : (end : JobEnd) (lines : List Line) → end ≡ Synced → lines ≢ [] → is_synced_end end lines ≡ false
told_end end [] synced some = absurd (some refl)
told_end end (line ∷ lines) synced some = ap (λ (e : JobEnd). is_synced_end e (line ∷ lines)) synced

all_clean : (reports : List Report) → AreSynced reports → AreLineless reports → list_all is_clean reports ≡ true
all_clean [] synced none = refl
all_clean (report ∷ reports) synced none = ap (λ (b : Bool). b && list_all is_clean reports) (clean_end report.end report.lines.items synced.0 none.0) ∙ all_clean reports synced.1 none.1

not_all_clean : (reports : List Report) → AreSynced reports → (AreLineless reports → ⊥) → list_all is_clean reports ≡ false
not_all_clean [] synced some = absurd (some tt)
not_all_clean (report ∷ reports) synced some = elim (no_lines_or report.lines.items) [
  | inl none ↦ ap (λ (b : Bool). b && list_all is_clean reports) (clean_end report.end report.lines.items synced.0 none) ∙ not_all_clean reports synced.1 (λ all. some (none, all))
  | inr told ↦ ap (λ (b : Bool). b && list_all is_clean reports) (told_end report.end report.lines.items synced.0 told)
]

abbrev exit_by : Bool → Bool → Bool → ℕ
exit_by starved clean write_fault = if starved then 3 else (if clean && not write_fault then 0 else 1)

exits : (reports : List Report) (starved clean write_fault : Bool) → list_any is_starved reports ≡ starved → list_all is_clean reports ≡ clean → exit_status reports write_fault ≡ exit_by starved clean write_fault
exits reports starved clean write_fault is_starved is_clean = ap (λ (b : Bool). exit_by b (list_all is_clean_report reports) write_fault) is_starved ∙ ap (λ (b : Bool). exit_by starved b write_fault) is_clean
  where
    is_clean_report : Report → Bool
    is_clean_report = λ report. is_synced_end report.end report.lines.items

no_fault_by : (cut : Cut) → (cut ≡ WriteFault → ⊥) → is_write_fault cut ≡ false
no_fault_by Whole not = refl
no_fault_by WriteFault not = absurd (not refl)
no_fault_by Starved not = refl

no_text : (name : List ℕ) (report : Report) → report.end ≡ Synced → report.lines.items ≡ [] → report_text name report ≡ []
unfolding report_text
no_text name report end lines = ap (λ (l : List Line). flat_map (ident_line name) l ++ end_text name report.end) lines ∙ ap (end_text name) end

no_texts : (jobs : List SyncJob) (reports : List Report) → AreSynced reports → AreLineless reports → texts_of jobs reports ≡ []
no_texts [] [] synced none = refl
no_texts (job ∷ jobs) [] synced none = refl
no_texts [] (report ∷ reports) synced none = refl
no_texts (job ∷ jobs) (report ∷ reports) synced none = ap (λ (t : List ℕ). t ++ texts_of jobs reports) (no_text job.pair report synced.0 none.0) ∙ no_texts jobs reports synced.1 none.1

-- ---- the whole run

all_kept : {O : Type 0} (places : O → Places) (tells : O → List ℕ → Type 0) (force : Bool) (old new : O) (jobs : List SyncJob) (reports : List Report) (ran : JobsRun places tells force old new jobs reports) → AllKept places tells force old new jobs reports ran
all_kept places tells force old new [] [] ran = tt
all_kept places tells force old new (job ∷ jobs) [] ran = tt
all_kept places tells force old new [] (report ∷ reports) ran = tt
all_kept places tells force old new (job ∷ jobs) (report ∷ reports) ran = (keeps_promise (places old) (places ran.0) (tells old) (tells ran.0) (job_to_run force job) report ran.1, all_kept places tells force ran.0 new jobs reports ran.2)

kept_run : {O I E : Type 0} (places : O → Places) (tells : O → List ℕ → Type 0) (children : O → Children) (tells_child : O → Type 0) (Fills : Filling (World O I E)) (old settled : World O I E) (new : O) (what : Asked) (ended : Ended) (did : Did places tells children tells_child Fills old settled new what ended) → IsKept places tells children tells_child Fills old settled new what ended did
kept_run places tells children tells_child Fills old settled new what WrongWords did = tt
kept_run places tells children tells_child Fills old settled new what HelpAsked did = tt
kept_run places tells children tells_child Fills old settled new what (WordsRefused line) did = tt
kept_run places tells children tells_child Fills old settled new what (FileRefused wanted e) did = tt
kept_run places tells children tells_child Fills old settled new what (ConfigRefused wanted r) did = tt
kept_run places tells children tells_child Fills old settled new what OutOfMemory did = tt
kept_run places tells children tells_child Fills old settled new what (JobsEnded wanted jobs reports) did = all_kept places tells wanted.force_delete settled.outfit new jobs reports (did.0).ran
kept_run places tells children tells_child Fills old settled new what (JobsStarved wanted jobs reports) did = all_kept places tells wanted.force_delete settled.outfit new jobs reports did.ran

pub promised_run : {O S I E : Type 0} (count_s : S → ℕ) (tells_s : S → Type 0) (held_s : S → List ℕ) (out out' : S) (count_e : E → ℕ) (tells_e : E → Type 0) (held_e : E → List ℕ) (err' : E) (places : O → Places) (tells : O → List ℕ → Type 0) (children : O → Children) (tells_child : O → Type 0) (Fills : Filling (World O I E)) (old : World O I E) (new : O) (input : I) (what : Asked) (result : ℕ) → KeepsPlain Fills →
    WordsRun places tells children tells_child Fills old new input what (Prints count_s tells_s held_s out out') (PrintsTo count_e tells_e held_e err') result →
    PromisedRun places tells children tells_child Fills old new input what (Prints count_s tells_s held_s out out') (PrintsTo count_e tells_e held_e err') (λ err. SinkIsStill count_s out out' × SinkIsStill count_e err err') (λ err. SinkIsSilent tells_s held_s out out' × SinkIsSilent tells_e held_e err err') result
promised_run {O} {S} {I} {E} count_s tells_s held_s out out' count_e tells_e held_e err' places tells children tells_child Fills old new input what result plain run =
    record {
      run = run;
      kept = kept_run places tells children tells_child Fills old run.settled new what run.ended run.did;
      complete = λ still quiet. at run.ended run.did run.out_cut run.err_cut run.printed run.told run.status still quiet;
    }
  where
    settled : World O I E
    settled = run.settled

    err : E
    err = settled.err

    Silent : Type 0
    Silent = SinkIsSilent tells_s held_s out out' × SinkIsSilent tells_e held_e err err'

    -- the status and the texts of jobs in sync
    answers : (jobs : List SyncJob) (reports : List Report) (out_cut err_cut : Cut) → Prints count_s tells_s held_s out out' (texts_of jobs reports) out_cut → Prints count_e tells_e held_e err err' [] err_cut → result ≡ exit_status reports (is_write_fault out_cut) →
        SinkIsStill count_s out out' → SinkIsStill count_e err err' → AreSynced reports → AnswersBy reports result Silent
    answers jobs reports out_cut err_cut printed told status still_s still_e synced = elim (lineless_or reports) [
      | inl none ↦
          let silent_s = printed_nothing count_s tells_s held_s out out' (texts_of jobs reports) out_cut (no_texts jobs reports synced none) still_s printed in
          let silent_e = printed_nothing count_e tells_e held_e err err' [] err_cut refl still_e told in
          inl (none, status ∙ (exits reports false true (is_write_fault out_cut) (none_starved reports synced) (all_clean reports synced none) ∙ ap (exit_by false true) no_fault), (silent_s, silent_e))
      | inr some ↦ inr (some, status ∙ exits reports false false (is_write_fault out_cut) (none_starved reports synced) (not_all_clean reports synced some))
    ]
      where
        no_fault : is_write_fault out_cut ≡ false
        no_fault = no_fault_by out_cut (no_write_fault count_s tells_s held_s out out' (texts_of jobs reports) out_cut still_s printed)

    at : (ended : Ended) (did : Did places tells children tells_child Fills old settled new what ended) (out_cut err_cut : Cut) → Prints count_s tells_s held_s out out' (out_text ended) out_cut → Prints count_e tells_e held_e err err' (err_text ended) err_cut → result ≡ status_of ended out_cut → SinkIsStill count_s out out' × SinkIsStill count_e err err' → IsUndisturbed places tells children tells_child Fills old settled new what ended did →
        (result ≡ 3) ⊎ LeavesClean places tells children tells_child Fills old settled new what ended did result Silent
    at WrongWords did out_cut err_cut printed told status still quiet = absurd quiet
    at HelpAsked did out_cut err_cut printed told status still quiet = absurd quiet
    at (WordsRefused line) did out_cut err_cut printed told status still quiet = absurd quiet
    at (FileRefused wanted e) did out_cut err_cut printed told status still quiet = absurd (not_refused (places old.outfit) (places new) (tells old.outfit) wanted e quiet (did.0).read did.1)
    at (ConfigRefused wanted r) did out_cut err_cut printed told status still quiet =
        let comes = comes_to_its_jobs (IsStill children) Fills wanted (world (did.0).read old.input old.err) settled (lifted (config_of (did.0).bytes)) (Err r) (did.0).settles plain quiet.1 in
        let clash : Err r ≡ Ok comes.0 = comes.1 in absurd (cc)
    at OutOfMemory did out_cut err_cut printed told status still quiet = inl status
    at (JobsEnded wanted jobs reports) did out_cut err_cut printed told status still quiet =
        elim (jobs_are_clean places tells wanted.force_delete settled.outfit new jobs reports (did.0).ran quiet.1) [
          | inl starved ↦ inl (status ∙ exits reports true (list_all is_clean reports) (is_write_fault out_cut) starved refl)
          | inr clean ↦ inr (answers jobs reports out_cut err_cut printed told status still.0 still.1 clean.synced, clean.leave)
        ]
    at (JobsStarved wanted jobs reports) did out_cut err_cut printed told status still quiet = inl status
