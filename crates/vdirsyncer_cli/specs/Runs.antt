-- What a run of the program does: its places, what it prints, and its status (this project's own).
use Rattle.std.specs.Prelude.{◌≡◌, ◌≢◌, ◌⊎◌, ℕ, Bool, true, false, List, [], length, Result, Ok, Err, codes}
use Rattle.outfits.specs.Places.{IsSame, StayTold}
use Rattle.outfits.specs.Children.{Children}
use Rattle.sync_plan.specs.declared.report.Report.{Report}
use Rattle.cli_jobs.specs.declared.job.SyncJob.{SyncJob}
use Rattle.cli_jobs.specs.declared.refusal.Refusal.{Refusal}
use Rattle.cli_jobs.specs.declared.refusal.Refusal.TheVariants as refusal
use Rattle.cli_jobs.specs.Texts.{refusal_text}
use Rattle.cli_text.specs.Exits.{exit_status}
use Rattle.cli_words.specs.Usage.{usage}
use Rattle.vdirsyncer_cli.specs.declared.asked.Asked.{Asked}
use Rattle.vdirsyncer_cli.specs.declared.asked.Asked.TheVariants as asked
use Rattle.vdirsyncer_cli.specs.declared.asked.Wanted.{Wanted}
use Rattle.vdirsyncer_cli.specs.declared.file_error.FileError.{FileError}
use Rattle.vdirsyncer_cli.specs.declared.file_error.FileError.TheVariants as file_error
use Rattle.vdirsyncer_cli.specs.declared.printing.Cut.{Cut}
use Rattle.vdirsyncer_cli.specs.declared.printing.Cut.TheVariants.{Whole, WriteFault, Starved}
use Rattle.vdirsyncer_cli.specs.declared.jobs.Progress.{Progress}
use Rattle.vdirsyncer_cli.specs.Files.{folder_of, name_of, file_text}
use Rattle.vdirsyncer_cli.specs.Places.{Places}
use Rattle.vdirsyncer_cli.specs.ConfigRead.{FileRead}
use Rattle.config_fetch.specs.Filling.{World, IsStill, world}
use Rattle.vdirsyncer_cli.specs.Settling.{Filling, Settles, Tries}
use Rattle.vdirsyncer_cli.specs.JobLists.{JobsRun, texts_of}

-- how a run ended: by its words, by what can't be done, by the file of its configuration, by what that says, by a want of memory
-- before any job, with the reports of all jobs, or by a want of memory outside a job, with the reports of those that ran
pub data Ended : Type 0 where
  WrongWords : Ended
  HelpAsked : Ended
  WordsRefused : List ℕ → Ended
  FileRefused : Wanted → FileError → Ended
  ConfigRefused : Wanted → Refusal → Ended
  OutOfMemory : Ended
  JobsEnded : Wanted → List SyncJob → List Report → Ended
  JobsStarved : Wanted → List SyncJob → List Report → Ended

-- the file of the configuration, as it is asked for, was read with this answer
pub record ReadsFile (old between : Places) (tells : List ℕ → Type 0) (what : Asked) (wanted : Wanted) (answer : Result (List ℕ) FileError) : Type 0 where
  pub is_asked : what ≡ asked.Run wanted
  pub read : FileRead old between tells (folder_of wanted.file) (name_of wanted.file) answer

-- the file was read, its texts were fetched, and it came to this
pub record ComesTo {O I E : Type 0} (places : O → Places) (tells : O → List ℕ → Type 0) (children : O → Children) (tells_child : O → Type 0) (Fills : Filling (World O I E)) (old settled : World O I E) (what : Asked) (wanted : Wanted) (answer : Result (List SyncJob) Refusal) : Type 0 where
  pub bytes : List ℕ
  -- the outfit behind the reading
  pub read : O
  pub reads : ReadsFile (places old.outfit) (places settled.outfit) (tells old.outfit) what wanted (Ok bytes)
  pub same_children : children read ≡ children old.outfit
  pub child_told : tells_child old.outfit → tells_child read
  pub settles : Settles (IsStill children) Fills wanted bytes (world read old.input old.err) settled answer

-- the file was read, and memory ran out while its texts were fetched, or before
pub record TriesTo {O I E : Type 0} (places : O → Places) (tells : O → List ℕ → Type 0) (children : O → Children) (tells_child : O → Type 0) (Fills : Filling (World O I E)) (old settled : World O I E) (what : Asked) (wanted : Wanted) : Type 0 where
  pub bytes : List ℕ
  pub read : O
  pub reads : ReadsFile (places old.outfit) (places settled.outfit) (tells old.outfit) what wanted (Ok bytes)
  pub same_children : children read ≡ children old.outfit
  pub child_told : tells_child old.outfit → tells_child read
  pub tries : Tries (IsStill children) Fills wanted bytes (world read old.input old.err) settled

-- nothing was done, or the file was read, or its texts were fetched
abbrev pub StarvedBy : {O I E : Type 0} → (O → Places) → (O → List ℕ → Type 0) → (O → Children) → (O → Type 0) → Filling (World O I E) → World O I E → World O I E → Asked → Type 0
StarvedBy places tells children tells_child Fills old settled what =
    (IsSame (places old.outfit) (places settled.outfit) × IsStill children old settled)
    ⊎ ((wanted : Wanted) × (answer : Result (List ℕ) FileError) × ReadsFile (places old.outfit) (places settled.outfit) (tells old.outfit) what wanted answer × IsStill children old settled)
    ⊎ ((wanted : Wanted) × TriesTo places tells children tells_child Fills old settled what wanted)

-- the configuration came to these jobs, and they ran behind that
pub record RunsJobs {O I E : Type 0} (places : O → Places) (tells : O → List ℕ → Type 0) (children : O → Children) (tells_child : O → Type 0) (Fills : Filling (World O I E)) (old settled : World O I E) (new : O) (what : Asked) (wanted : Wanted) (jobs : List SyncJob) (reports : List Report) : Type 0 where
  pub comes : ComesTo places tells children tells_child Fills old settled what wanted (Ok jobs)
  pub stay_told : StayTold (tells old.outfit) (tells settled.outfit)
  pub ran : JobsRun places tells wanted.force_delete settled.outfit new jobs reports

-- the places, the children, the input and the sink for errors stay as they are
pub record IsIdle {O I E : Type 0} (places : O → Places) (tells : O → List ℕ → Type 0) (children : O → Children) (old settled : World O I E) (new : O) : Type 0 where
  pub same : IsSame (places old.outfit) (places new)
  pub stay_told : StayTold (tells old.outfit) (tells new)
  pub still : IsStill children old settled

-- what the run did: up to the jobs, and then
abbrev pub Did : {O I E : Type 0} → (O → Places) → (O → List ℕ → Type 0) → (O → Children) → (O → Type 0) → Filling (World O I E) → World O I E → World O I E → O → Asked → Ended → Type 0
Did places tells children tells_child Fills old settled new what WrongWords = (what ≡ asked.Wrong) × IsIdle places tells children old settled new
Did places tells children tells_child Fills old settled new what HelpAsked = (what ≡ asked.Help) × IsIdle places tells children old settled new
Did places tells children tells_child Fills old settled new what (WordsRefused line) = (what ≡ asked.Refused line) × IsIdle places tells children old settled new
Did places tells children tells_child Fills old settled new what (FileRefused wanted e) = ReadsFile (places old.outfit) (places new) (tells old.outfit) what wanted (Err e) × (e ≢ file_error.NoMemory) × StayTold (tells old.outfit) (tells new) × IsStill children old settled
Did places tells children tells_child Fills old settled new what (ConfigRefused wanted r) = ComesTo places tells children tells_child Fills old settled what wanted (Err r) × (r ≢ refusal.NoMemory) × StayTold (tells old.outfit) (tells new) × (new ≡ settled.outfit)
Did places tells children tells_child Fills old settled new what OutOfMemory = StarvedBy places tells children tells_child Fills old settled what × StayTold (tells old.outfit) (tells new) × (new ≡ settled.outfit)
Did places tells children tells_child Fills old settled new what (JobsEnded wanted jobs reports) = RunsJobs places tells children tells_child Fills old settled new what wanted jobs reports × (length reports ≡ length jobs)
Did places tells children tells_child Fills old settled new what (JobsStarved wanted jobs reports) = RunsJobs places tells children tells_child Fills old settled new what wanted jobs reports

-- what is printed on the sink for output
abbrev pub out_text : Ended → List ℕ
out_text WrongWords = []
out_text HelpAsked = usage
out_text (WordsRefused line) = []
out_text (FileRefused wanted e) = []
out_text (ConfigRefused wanted r) = []
out_text OutOfMemory = []
out_text (JobsEnded wanted jobs reports) = texts_of jobs reports
out_text (JobsStarved wanted jobs reports) = texts_of jobs reports

-- memory may have run out before all of it was made
abbrev pub MayBeStarved : Ended → Cut → Type 0
MayBeStarved WrongWords cut = cut ≢ Starved
MayBeStarved HelpAsked cut = cut ≢ Starved
MayBeStarved (WordsRefused line) cut = cut ≢ Starved
MayBeStarved (FileRefused wanted e) cut = cut ≢ Starved
MayBeStarved (ConfigRefused wanted r) cut = cut ≢ Starved
MayBeStarved OutOfMemory cut = cut ≢ Starved
MayBeStarved (JobsEnded wanted jobs reports) cut = cut ≢ Starved
MayBeStarved (JobsStarved wanted jobs reports) cut = Unit {0}

abbrev pub memory_line : List ℕ
memory_line = codes "out of memory\n"

-- what is printed on the sink for errors
abbrev pub err_text : Ended → List ℕ
err_text WrongWords = usage
err_text HelpAsked = []
err_text (WordsRefused line) = line
err_text (FileRefused wanted e) = file_text wanted.file e
err_text (ConfigRefused wanted r) = refusal_text r
err_text OutOfMemory = memory_line
err_text (JobsEnded wanted jobs reports) = []
err_text (JobsStarved wanted jobs reports) = memory_line

-- 0 where the text was written whole, else 1
abbrev pub cut_status : Cut → ℕ
cut_status Whole = 0
cut_status WriteFault = 1
cut_status Starved = 3

abbrev pub is_write_fault : Cut → Bool
is_write_fault Whole = false
is_write_fault WriteFault = true
is_write_fault Starved = false

abbrev pub status_of : Ended → Cut → ℕ
status_of WrongWords cut = 2
status_of HelpAsked cut = cut_status cut
status_of (WordsRefused line) cut = 1
status_of (FileRefused wanted e) cut = 1
status_of (ConfigRefused wanted r) cut = 1
status_of OutOfMemory cut = 3
status_of (JobsEnded wanted jobs reports) cut = exit_status reports (is_write_fault cut)
status_of (JobsStarved wanted jobs reports) cut = 3

-- one run of the program: what it did to the places, what it printed, and its status. `settled` is where it stands when all
-- texts are fetched: on the sink for errors the prompts come first, and then the text of the end.
-- `PrintsOut` and `PrintsErr` say of a text that it was printed there, whole or cut short
pub record WordsRun {O I E : Type 0} (places : O → Places) (tells : O → List ℕ → Type 0) (children : O → Children) (tells_child : O → Type 0) (Fills : Filling (World O I E)) (old : World O I E) (new : O) (input : I) (what : Asked) (PrintsOut : List ℕ → Cut → Type 0) (PrintsErr : E → List ℕ → Cut → Type 0) (result : ℕ) : Type 0 where
  pub ended : Ended
  pub settled : World O I E
  pub out_cut : Cut
  pub err_cut : Cut
  pub did : Did places tells children tells_child Fills old settled new what ended
  pub same_children : children new ≡ children settled.outfit
  pub same_input : input ≡ settled.input
  pub printed : PrintsOut (out_text ended) out_cut
  pub told : PrintsErr settled.err (err_text ended) err_cut
  pub spoke : MayBeStarved ended out_cut
  pub not_starved : err_cut ≢ Starved
  pub status : result ≡ status_of ended out_cut

-- what follows a refusal: its line, or a want of memory
pub record Refuses (IsStarved : Type 0) (line : List ℕ) (PrintsErr : List ℕ → Cut → Type 0) (result : ℕ) : Type 0 where
  pub cut : Cut
  pub not_starved : cut ≢ Starved
  pub told : ((IsStarved → ⊥) × PrintsErr line cut × (result ≡ 1)) ⊎ (PrintsErr memory_line cut × (result ≡ 3))

-- a want of memory is told
pub record TellsStarved (PrintsErr : List ℕ → Cut → Type 0) (result : ℕ) : Type 0 where
  pub cut : Cut
  pub not_starved : cut ≢ Starved
  pub told : PrintsErr memory_line cut
  pub status : result ≡ 3

-- what follows the jobs: nothing more is told, or a want of memory is
abbrev pub FinishesBy : Bool → Progress → (List ℕ → Cut → Type 0) → ℕ → Type 0
FinishesBy true done PrintsErr result = TellsStarved PrintsErr result
FinishesBy false done PrintsErr result = PrintsErr [] Whole × (result ≡ exit_status done.reports.items (is_write_fault done.cut))
