-- From the parts of a run of the program to the whole.
use Rattle.std.proofs.Common.{◌≡◌, ◌≢◌, ◌⊎◌, inl, inr, ℕ, Bool, true, false, List, [], Option, Result, Ok, Err, refl, sym, ◌∙◌, ap, subst, append-nil, arith}
use Rattle.outfits.specs.Places.{Place, IsSame, StayTold}
use Rattle.cli_jobs.specs.declared.job.SyncJob.{SyncJob}
use Rattle.cli_jobs.specs.declared.refusal.Refusal.{Refusal}
use Rattle.cli_jobs.specs.declared.refusal.Refusal.TheVariants as refusal
use Rattle.cli_jobs.specs.Texts.{refusal_text}
use Rattle.vdirsyncer_cli.specs.declared.asked.Asked.{Asked}
use Rattle.vdirsyncer_cli.specs.declared.asked.Asked.TheVariants.{Wrong, Help, Refused, Run}
use Rattle.vdirsyncer_cli.specs.declared.asked.Wanted.{Wanted}
use Rattle.vdirsyncer_cli.specs.declared.file_error.FileError.{FileError}
use Rattle.vdirsyncer_cli.specs.declared.file_error.FileError.TheVariants as file_error
use Rattle.vdirsyncer_cli.specs.declared.printing.Cut.{Cut}
use Rattle.vdirsyncer_cli.specs.declared.printing.Cut.TheVariants.{Whole, Starved}
use Rattle.vdirsyncer_cli.specs.declared.jobs.Progress.{Progress}
use Rattle.vdirsyncer_cli.specs.Printing.{Prints}
use Rattle.vdirsyncer_cli.specs.Places.{Places, place_at}
use Rattle.vdirsyncer_cli.specs.Files.{folder_of, name_of, file_text}
use Rattle.vdirsyncer_cli.specs.ConfigRead.{FileStep, FileRead}
use Rattle.vdirsyncer_cli.specs.JobLists.{RanJobs}
use Rattle.config_fetch.specs.Filling.{World, IsStill, world}
use Rattle.outfits.specs.Children.{Children}
use Rattle.vdirsyncer_cli.specs.Settling.{Filling, SettlesOrTries}
use Rattle.vdirsyncer_cli.specs.Runs.{memory_line, StarvedBy, IsIdle, ComesTo, TriesTo, RunsJobs, WordsRun, Refuses, FinishesBy, TellsStarved, cut_status}
use Rattle.cli_words.specs.Usage.{usage}
use Rattle.vdirsyncer_cli.specs.Runs.Ended.{WrongWords, HelpAsked, WordsRefused, FileRefused, ConfigRefused, OutOfMemory, JobsEnded, JobsStarved}

-- a sink that wasn't used
pub silent : {S : Type 0} (count : S → ℕ) (tells : S → Type 0) (held : S → List ℕ) (s : S) → Prints count tells held s s [] Whole
silent count tells held s = (omega arith, λ told. (told, sym (append-nil (held s))))

whole_spoke : Whole ≡ Starved → ⊥
whole_spoke is = cc

-- the file of the configuration was read so
abbrev pub Read : Places → Places → (List ℕ → Type 0) → Wanted → Result (List ℕ) FileError → Type 0
Read old new t wanted answer = FileRead old new t (folder_of wanted.file) (name_of wanted.file) answer

-- nothing was run, read or written
pub still : {O I E : Type 0} (children : O → Children) (s t : World O I E) → children t.outfit ≡ children s.outfit → t.input ≡ s.input → t.err ≡ s.err → IsStill children s t
still children s t c i e = record { same_children = c; same_input = i; same_err = e }

idle : {O I E : Type 0} (places : O → Places) (tells : O → List ℕ → Type 0) (children : O → Children) (tells_child : O → Type 0) (Fills : Filling (World O I E)) (old : World O I E) → IsIdle places tells children old old old.outfit
idle places tells children tells_child Fills old = record { same = λ q. refl; stay_told = λ q h. h; still = still children old old refl refl refl }

-- a want of memory was told behind this
pub starved_by : {O I E : Type 0} (places : O → Places) (tells : O → List ℕ → Type 0) (children : O → Children) (tells_child : O → Type 0) (Fills : Filling (World O I E)) (old settled : World O I E) (what : Asked) (PrintsOut : List ℕ → Cut → Type 0) (PrintsErr : E → List ℕ → Cut → Type 0) (result : ℕ) → StarvedBy places tells children tells_child Fills old settled what → StayTold (tells old.outfit) (tells settled.outfit) → PrintsOut [] Whole → TellsStarved (PrintsErr settled.err) result → WordsRun places tells children tells_child Fills old settled.outfit settled.input what PrintsOut PrintsErr result
starved_by places tells children tells_child Fills old settled what PrintsOut PrintsErr result did stay quiet starved =
    record { ended = OutOfMemory; settled = settled; out_cut = Whole; err_cut = starved.cut; did = (did, stay, refl); same_children = refl; same_input = refl; printed = quiet; told = starved.told; spoke = whole_spoke; not_starved = starved.not_starved; status = starved.status }

pub refused_file : {O I E : Type 0} (places : O → Places) (tells : O → List ℕ → Type 0) (children : O → Children) (tells_child : O → Type 0) (Fills : Filling (World O I E)) (old : World O I E) (new : O) (wanted : Wanted) (error : FileError) (PrintsOut : List ℕ → Cut → Type 0) (PrintsErr : E → List ℕ → Cut → Type 0) (result : ℕ) → Read (places old.outfit) (places new) (tells old.outfit) wanted (Err error) → StayTold (tells old.outfit) (tells new) → children new ≡ children old.outfit → PrintsOut [] Whole → Refuses (error ≡ file_error.NoMemory) (file_text wanted.file error) (PrintsErr old.err) result → WordsRun places tells children tells_child Fills old new old.input (Run wanted) PrintsOut PrintsErr result
refused_file {O} {I} {E} places tells children tells_child Fills old new wanted error PrintsOut PrintsErr result read stay same quiet refuses = by refuses.told
  where
    settled : World O I E
    settled = world new old.input old.err

    is_still : IsStill children old settled
    is_still = still children old settled same refl refl

    by : ((error ≢ file_error.NoMemory) × PrintsErr old.err (file_text wanted.file error) refuses.cut × (result ≡ 1)) ⊎ (PrintsErr old.err memory_line refuses.cut × (result ≡ 3)) → WordsRun places tells children tells_child Fills old new old.input (Run wanted) PrintsOut PrintsErr result
    by (inl h) = record { ended = FileRefused wanted error; settled = settled; out_cut = Whole; err_cut = refuses.cut; did = (record { is_asked = refl; read = read }, h.0, stay, is_still); same_children = refl; same_input = refl; printed = quiet; told = h.1; spoke = whole_spoke; not_starved = refuses.not_starved; status = h.2 }
    by (inr h) = starved_by places tells children tells_child Fills old settled (Run wanted) PrintsOut PrintsErr result (inr (inl (wanted, Err error, record { is_asked = refl; read = read }, is_still))) stay quiet (record { cut = refuses.cut; not_starved = refuses.not_starved; told = h.0; status = h.1 })

-- the same at equal places
read_on : (p0 p1 p2 : Places) (t : List ℕ → Type 0) (wanted : Wanted) (answer : Result (List ℕ) FileError) → Read p0 p1 t wanted answer → IsSame p1 p2 → Read p0 p2 t wanted answer
read_on p0 p1 p2 t wanted answer read same =
    let folder = folder_of wanted.file in
    let e : place_at p1 folder ≡ place_at p2 folder = ap (λ (o : Option Place). place_at (λ q. o) folder) (sym (same folder)) in
    record {
      step = subst (λ (x : Place). FileStep (place_at p0 folder) x (t folder) (name_of wanted.file) answer) e read.step;
      others = λ q apart. same q ∙ read.others q apart;
    }

-- the file was read, and the outfit behind that is as good as the one before it
pub record WasRead {O I E : Type 0} (places : O → Places) (tells : O → List ℕ → Type 0) (children : O → Children) (tells_child : O → Type 0) (old settled : World O I E) (read : O) (wanted : Wanted) (bytes : List ℕ) : Type 0 where
  pub file : Read (places old.outfit) (places settled.outfit) (tells old.outfit) wanted (Ok bytes)
  pub stay_told : StayTold (tells old.outfit) (tells settled.outfit)
  pub same_children : children read ≡ children old.outfit
  pub child_told : tells_child old.outfit → tells_child read

pub was_read : {O I E : Type 0} (places : O → Places) (tells : O → List ℕ → Type 0) (children : O → Children) (tells_child : O → Type 0) (old settled : World O I E) (read : O) (wanted : Wanted) (bytes : List ℕ) → Read (places old.outfit) (places read) (tells old.outfit) wanted (Ok bytes) → StayTold (tells old.outfit) (tells read) → children read ≡ children old.outfit → (tells_child old.outfit → tells_child read) → IsSame (places read) (places settled.outfit) → StayTold (tells read) (tells settled.outfit) → WasRead places tells children tells_child old settled read wanted bytes
was_read places tells children tells_child old settled read wanted bytes file stay same told places_same stay_on =
    record { file = read_on (places old.outfit) (places read) (places settled.outfit) (tells old.outfit) wanted (Ok bytes) file places_same; stay_told = λ q h. stay_on q (stay q h); same_children = same; child_told = told }

pub refused_config : {O I E : Type 0} (places : O → Places) (tells : O → List ℕ → Type 0) (children : O → Children) (tells_child : O → Type 0) (Fills : Filling (World O I E)) (old settled : World O I E) (read : O) (wanted : Wanted) (bytes : List ℕ) (reason : Refusal) (PrintsOut : List ℕ → Cut → Type 0) (PrintsErr : E → List ℕ → Cut → Type 0) (result : ℕ) → WasRead places tells children tells_child old settled read wanted bytes → SettlesOrTries (IsStill children) Fills wanted bytes (world read old.input old.err) settled (Err reason) → PrintsOut [] Whole → Refuses (reason ≡ refusal.NoMemory) (refusal_text reason) (PrintsErr settled.err) result → WordsRun places tells children tells_child Fills old settled.outfit settled.input (Run wanted) PrintsOut PrintsErr result
refused_config {O} {I} {E} places tells children tells_child Fills old settled read wanted bytes reason PrintsOut PrintsErr result was settles quiet refuses = by refuses.told
  where
    by : ((reason ≢ refusal.NoMemory) × PrintsErr settled.err (refusal_text reason) refuses.cut × (result ≡ 1)) ⊎ (PrintsErr settled.err memory_line refuses.cut × (result ≡ 3)) → WordsRun places tells children tells_child Fills old settled.outfit settled.input (Run wanted) PrintsOut PrintsErr result
    by (inl h) =
        let comes : ComesTo places tells children tells_child Fills old settled (Run wanted) wanted (Err reason) = record { bytes = bytes; read = read; reads = record { is_asked = refl; read = was.file }; same_children = was.same_children; child_told = was.child_told; settles = settles.settles (λ starved. h.0 (let same : reason ≡ refusal.NoMemory = cc in same)) } in
        record { ended = ConfigRefused wanted reason; settled = settled; out_cut = Whole; err_cut = refuses.cut; did = (comes, h.0, was.stay_told, refl); same_children = refl; same_input = refl; printed = quiet; told = h.1; spoke = whole_spoke; not_starved = refuses.not_starved; status = h.2 }
    by (inr h) =
        let tried : TriesTo places tells children tells_child Fills old settled (Run wanted) wanted = record { bytes = bytes; read = read; reads = record { is_asked = refl; read = was.file }; same_children = was.same_children; child_told = was.child_told; tries = settles.tries } in
        starved_by places tells children tells_child Fills old settled (Run wanted) PrintsOut PrintsErr result (inr (inr (wanted, tried))) was.stay_told quiet (record { cut = refuses.cut; not_starved = refuses.not_starved; told = h.0; status = h.1 })

-- the jobs ran, all of them or up to a want of memory
pub jobs_run : {O I E : Type 0} (places : O → Places) (tells : O → List ℕ → Type 0) (children : O → Children) (tells_child : O → Type 0) (Fills : Filling (World O I E)) (old settled : World O I E) (read new : O) (wanted : Wanted) (bytes : List ℕ) (jobs : List SyncJob) (done : Progress) (PrintsOut : List ℕ → Cut → Type 0) (PrintsErr : E → List ℕ → Cut → Type 0) (result : ℕ) → WasRead places tells children tells_child old settled read wanted bytes → SettlesOrTries (IsStill children) Fills wanted bytes (world read old.input old.err) settled (Ok jobs) → RanJobs places tells wanted.force_delete settled.outfit new jobs PrintsOut done → children new ≡ children settled.outfit → FinishesBy done.is_starved done (PrintsErr settled.err) result → WordsRun places tells children tells_child Fills old new settled.input (Run wanted) PrintsOut PrintsErr result
jobs_run places tells children tells_child Fills old settled read new wanted bytes jobs done PrintsOut PrintsErr result was settles ran same finishes = by done.is_starved refl finishes
  where
    runs : RunsJobs places tells children tells_child Fills old settled new (Run wanted) wanted jobs done.reports.items
    runs = record { comes = record { bytes = bytes; read = read; reads = record { is_asked = refl; read = was.file }; same_children = was.same_children; child_told = was.child_told; settles = settles.settles (λ starved. absurd (let clash : Ok jobs ≡ Err refusal.NoMemory = starved in cc)) }; stay_told = was.stay_told; ran = ran.ran }

    by : (starved : Bool) → done.is_starved ≡ starved → FinishesBy starved done (PrintsErr settled.err) result → WordsRun places tells children tells_child Fills old new settled.input (Run wanted) PrintsOut PrintsErr result
    by true is told = record { ended = JobsStarved wanted jobs done.reports.items; settled = settled; out_cut = done.cut; err_cut = told.cut; did = runs; same_children = same; same_input = refl; printed = ran.printed; told = told.told; spoke = tt; not_starved = told.not_starved; status = told.status }
    by false is told = record { ended = JobsEnded wanted jobs done.reports.items; settled = settled; out_cut = done.cut; err_cut = Whole; did = (runs, ran.all is); same_children = same; same_input = refl; printed = ran.printed; told = told.0; spoke = ran.spoke is; not_starved = whole_spoke; status = told.1 }

-- a want of memory before anything was opened
pub starved_first : {O I E : Type 0} (places : O → Places) (tells : O → List ℕ → Type 0) (children : O → Children) (tells_child : O → Type 0) (Fills : Filling (World O I E)) (old : World O I E) (what : Asked) (PrintsOut : List ℕ → Cut → Type 0) (PrintsErr : E → List ℕ → Cut → Type 0) (result : ℕ) → PrintsOut [] Whole → TellsStarved (PrintsErr old.err) result → WordsRun places tells children tells_child Fills old old.outfit old.input what PrintsOut PrintsErr result
starved_first places tells children tells_child Fills old what PrintsOut PrintsErr result quiet starved =
    starved_by places tells children tells_child Fills old old what PrintsOut PrintsErr result (inl ((λ q. refl), still children old old refl refl refl)) (λ q h. h) quiet starved

-- the words are answered, and nothing else is done
pub wrong_run : {O I E : Type 0} (places : O → Places) (tells : O → List ℕ → Type 0) (children : O → Children) (tells_child : O → Type 0) (Fills : Filling (World O I E)) (old : World O I E) (what : Asked) (PrintsOut : List ℕ → Cut → Type 0) (PrintsErr : E → List ℕ → Cut → Type 0) (cut : Cut) → what ≡ Wrong → PrintsOut [] Whole → PrintsErr old.err usage cut → cut ≢ Starved → WordsRun places tells children tells_child Fills old old.outfit old.input what PrintsOut PrintsErr 2
wrong_run places tells children tells_child Fills old what PrintsOut PrintsErr cut is quiet told not_starved =
    record { ended = WrongWords; settled = old; out_cut = Whole; err_cut = cut; did = (is, idle places tells children tells_child Fills old); same_children = refl; same_input = refl; printed = quiet; told = told; spoke = whole_spoke; not_starved = not_starved; status = refl }

pub help_run : {O I E : Type 0} (places : O → Places) (tells : O → List ℕ → Type 0) (children : O → Children) (tells_child : O → Type 0) (Fills : Filling (World O I E)) (old : World O I E) (what : Asked) (PrintsOut : List ℕ → Cut → Type 0) (PrintsErr : E → List ℕ → Cut → Type 0) (cut : Cut) (result : ℕ) → what ≡ Help → PrintsOut usage cut → PrintsErr old.err [] Whole → cut ≢ Starved → result ≡ cut_status cut → WordsRun places tells children tells_child Fills old old.outfit old.input what PrintsOut PrintsErr result
help_run places tells children tells_child Fills old what PrintsOut PrintsErr cut result is printed quiet spoke status =
    record { ended = HelpAsked; settled = old; out_cut = cut; err_cut = Whole; did = (is, idle places tells children tells_child Fills old); same_children = refl; same_input = refl; printed = printed; told = quiet; spoke = spoke; not_starved = whole_spoke; status = status }

pub refused_words : {O I E : Type 0} (places : O → Places) (tells : O → List ℕ → Type 0) (children : O → Children) (tells_child : O → Type 0) (Fills : Filling (World O I E)) (old : World O I E) (what : Asked) (line : List ℕ) (PrintsOut : List ℕ → Cut → Type 0) (PrintsErr : E → List ℕ → Cut → Type 0) (cut : Cut) → what ≡ Refused line → PrintsOut [] Whole → PrintsErr old.err line cut → cut ≢ Starved → WordsRun places tells children tells_child Fills old old.outfit old.input what PrintsOut PrintsErr 1
refused_words places tells children tells_child Fills old what line PrintsOut PrintsErr cut is quiet told not_starved =
    record { ended = WordsRefused line; settled = old; out_cut = Whole; err_cut = cut; did = (is, idle places tells children tells_child Fills old); same_children = refl; same_input = refl; printed = quiet; told = told; spoke = whole_spoke; not_starved = not_starved; status = refl }
