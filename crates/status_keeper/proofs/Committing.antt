-- Each answer of the folder, as an answer of the keeper.
use Rattle.std.proofs.Common.{◌≡◌, ℕ, ◌<◌, ◌≤◌, Bool, true, false, List, [], length, Option, Some, None, Result, Ok, Err, refl, sym, ap, ◌∙◌, subst, inl, inr, arith}
use Rattle.std.specs.Prelude.{if◌then◌else◌, nat_lt}
use Rattle.std.specs.FinMap as fin
use Rattle.std.proofs.lemmas.Slice.Eq.{bytes_eq-Decides}
use Rattle.std.specs.declared.vec.Vec.{Vec}
use Rattle.std.specs.declared.alloc.Global.{Global}
use Rattle.outside.specs.Etag.{etag}
use Rattle.outside.proofs.Runs.{Runs-refl, Runs-trans, Runs-weaker, Runs-one}
use Rattle.outside.proofs.FolderLemmas.{outside_is_making, IsEmptyWhereAbsent}
use Rattle.outside.specs.Files as folders
use Rattle.outside.specs.Files.{FolderState}
use Rattle.outside.specs.FolderCalls as folder_calls
use Rattle.outside.specs.FolderCalls.{ReadAnswer, ReplaceAnswer, MakeAnswer, FolderCause, meets, has_tagged, wrote}
use Rattle.outside.specs.declared.folder.Expect.{Expect}
use Rattle.outside.specs.declared.folder.Change.{Change}
use Rattle.outside.specs.declared.folder.Change.TheVariants as change
use Rattle.outside.specs.declared.folder.FolderError.{FolderError}
use Rattle.outside.specs.declared.folder.FolderError.TheVariants as folder_error
use Rattle.status_keeper.specs.declared.row.Row.{Row}
use Rattle.status_keeper.specs.declared.keeper.KeeperError.{KeeperError}
use Rattle.status_keeper.specs.declared.keeper.KeeperError.TheVariants.{Fault, Moved, Damaged, TooLong, NoMemory}
use Rattle.status_keeper.specs.Kept.{KeeperEvent, KeeperState, Edited, Toggled, Made, Committed, Spoiled, happens, Evolves, IsEdit, IsMaking, IsCommitOf}
use Rattle.status_keeper.specs.KeeperCalls.{AfterEdits, AfterPlacing, LoadAnswer, Commits, CommitAnswer, found_at, is_as_found}
use Rattle.status_keeper.specs.Reading.{Gives}
use Rattle.status_keeper.specs.Status.{Kept, max_status, text_of, kept_of, kept_text}
use Rattle.status_keeper.specs.FileStatus.{status_file, own_write, stamp_in, state_of, is_file_as_found, folder_placed, AfterMaking, PutAnswer, Puts, PutsTo, refusal_of, replaced_of}
use Rattle.status_keeper.proofs.Lifting.{wrote_status, read_step, making_seen, outside_seen}
use Rattle.status_keeper.proofs.Moving.{placing_run}
use Rattle.status_keeper.proofs.Standing.{empty_later, empty_placed, placed_seen, met_seen, stands, placed_made}

-- ---- the meaning of a file

pub kept_of-none : kept_of None ≡ Ok []
unfolding kept_of
kept_of-none = refl

fitting : (b : Bool) (bytes : List ℕ) → b ≡ false → (if b then Err TooLong else kept_text bytes) ≡ kept_text bytes
fitting true bytes h = absurd (let clash : true ≡ false = h in cc)
fitting false bytes h = refl

past : (b : Bool) (bytes : List ℕ) → b ≡ true → (if b then Err TooLong else kept_text bytes) ≡ Err TooLong
past true bytes h = refl
past false bytes h = absurd (let clash : false ≡ true = h in cc)

not_past : (m n : ℕ) → n ≤ m → nat_lt m n ≡ false
not_past m n h = grind (arith)

is_past : (m n : ℕ) → m < n → nat_lt m n ≡ true
is_past m n h = grind (arith)

pub kept_of-within : (bytes : List ℕ) → length bytes ≤ max_status → kept_of (Some bytes) ≡ kept_text bytes
unfolding kept_of
kept_of-within bytes h = fitting (nat_lt max_status (length bytes)) bytes (not_past max_status (length bytes) h)

pub kept_of-past : (bytes : List ℕ) → max_status < length bytes → kept_of (Some bytes) ≡ Err TooLong
unfolding kept_of
kept_of-past bytes h = past (nat_lt max_status (length bytes)) bytes (is_past max_status (length bytes) h)

-- ---- load

abbrev pub Loads : FolderState → FolderState → Result (Vec Row Global) KeeperError → Type 0
Loads s t result = AfterEdits (state_of s) (λ m. LoadAnswer m (state_of t) result)

refused : (s t : FolderState) (e : FolderError) → folder_calls.AfterEdits s (λ m. ReadAnswer m t status_file max_status (Err e)) → Loads s t (Err (refusal_of e))
refused s t folder_error.Fault h = record { moment = state_of h.moment; edits = outside_seen s h.moment h.edits; does = ap state_of h.does }
refused s t folder_error.NoMemory h = record { moment = state_of h.moment; edits = outside_seen s h.moment h.edits; does = ap state_of h.does }
refused s t folder_error.TooLong h =
    let long : (bytes : List ℕ) × (fin.get h.moment.files status_file ≡ Some bytes) × (max_status < length bytes) = h.does.1 in
    record { moment = state_of h.moment; edits = outside_seen s h.moment h.edits; does = (ap state_of h.does.0, ap kept_of long.1 ∙ kept_of-past long.0 long.2) }

pub load_refused : (s t : FolderState) (e : FolderError) (r : KeeperError) → r ≡ refusal_of e → folder_calls.AfterEdits s (λ m. ReadAnswer m t status_file max_status (Err e)) → Loads s t (Err r)
load_refused s t e r same h = subst (λ (x : KeeperError). Loads s t (Err x)) (sym same) (refused s t e h)

pub load_none : (s t : FolderState) (rows : Vec Row Global) → rows.items ≡ [] → folder_calls.AfterEdits s (λ m. ReadAnswer m t status_file max_status (Ok None)) → Loads s t (Ok rows)
load_none s t rows none h = record { moment = state_of h.moment; edits = outside_seen s h.moment h.edits; does = (ap state_of h.does.0, ap kept_of h.does.1 ∙ kept_of-none ∙ ap Ok (sym none)) }

given : (m t : KeeperState) (kept : Kept) (result : Result (Vec Row Global) KeeperError) → t ≡ m → m.kept ≡ kept → Gives kept result → LoadAnswer m t result
given m t kept (Ok rows) same is h = (same, is ∙ h)
given m t kept (Err (Damaged k)) same is h = (same, is ∙ h)
given m t kept (Err NoMemory) same is h = same
given m t kept (Err TooLong) same is h = absurd h
given m t kept (Err Fault) same is h = absurd h
given m t kept (Err Moved) same is h = absurd h

pub load_some : (s t : FolderState) (bytes : Vec ℕ Global) (result : Result (Vec Row Global) KeeperError) → folder_calls.AfterEdits s (λ m. ReadAnswer m t status_file max_status (Ok (Some bytes))) → Gives (kept_text bytes.items) result → Loads s t result
load_some s t bytes result h gives =
    record {
      moment = state_of h.moment;
      edits = outside_seen s h.moment h.edits;
      does = given (state_of h.moment) (state_of t) (kept_text bytes.items) result (ap state_of h.does.2 ∙ read_step h.moment status_file bytes.items) (ap kept_of h.does.0 ∙ kept_of-within bytes.items h.does.1) gives;
    }

-- what is found at the end of a reading
pub found_none : (s t : FolderState) → folder_calls.AfterEdits s (λ m. ReadAnswer m t status_file max_status (Ok None)) → None ≡ found_at (state_of t).stamp
found_none s t h = sym (ap (λ (x : FolderState). found_at (state_of x).stamp) h.does.0 ∙ stands h.moment None h.does.1)

pub found_some : (s t : FolderState) (bytes : Vec ℕ Global) → folder_calls.AfterEdits s (λ m. ReadAnswer m t status_file max_status (Ok (Some bytes))) → Some (etag bytes.items) ≡ found_at (state_of t).stamp
found_some s t bytes h = sym (ap (λ (x : FolderState). found_at (state_of x).stamp) h.does.2 ∙ stands h.moment (Some bytes.items) h.does.0)

-- ---- a conditional write

replaced_at : (m t : FolderState) (expect : Expect) (text : List ℕ) (result : Result Change FolderError) → ReplaceAnswer m t status_file expect text result → PutAnswer m t (meets m status_file expect) text (replaced_of result)
replaced_at m t expect text (Ok change.Done) h = h
replaced_at m t expect text (Ok change.Moved) h = h
replaced_at m t expect text (Err folder_error.Fault) h = h
replaced_at m t expect text (Err folder_error.NoMemory) h = h
replaced_at m t expect text (Err folder_error.TooLong) h = absurd h

pub replaced : (s t : FolderState) (expect : Expect) (text : List ℕ) (result : Result Change FolderError) (answer : Result (Unit {0}) KeeperError) → answer ≡ replaced_of result → folder_calls.AfterEdits s (λ m. ReplaceAnswer m t status_file expect text result) → folder_calls.AfterEdits s (λ m. PutAnswer m t (meets m status_file expect) text answer)
replaced s t expect text result answer same h =
    record {
      moment = h.moment;
      edits = h.edits;
      does = subst (λ (r : Result (Unit {0}) KeeperError). PutAnswer h.moment t (meets h.moment status_file expect) text r) (sym same) (replaced_at h.moment t expect text result h.does);
    }

-- the run of a call up to its write
put_run : (found : Option (List ℕ)) (s t : FolderState) (Does : FolderState → Type 0) (h : AfterMaking found s Does) → t ≡ h.moment → folders.Evolves folders.IsMaking s t
put_run found s t Does h same =
    subst (λ (x : FolderState). folders.Evolves folders.IsMaking s x) (sym same)
    (Runs-trans (Runs-weaker outside_is_making h.edits) (Runs-trans (placed_made found h.asked) (Runs-weaker outside_is_making h.later)))

put_at : (found : Option (List ℕ)) (s t : FolderState) (text : List ℕ) (result : Result (Unit {0}) KeeperError) → AfterMaking found s (λ m. PutAnswer m t (is_file_as_found found m) text result) → PutsTo found s t text result
put_at found s t text (Ok u) h = h
put_at found s t text (Err Moved) h = h
put_at found s t text (Err Fault) h = elim h.does [
  | inl same ↦ inl (put_run found s t _ h same)
  | inr acted ↦ inr (record { asked = h.asked; edits = h.edits; moment = h.moment; later = h.later; does = acted })
]
put_at found s t text (Err NoMemory) h = put_run found s t _ h h.does
put_at found s t text (Err TooLong) h = absurd h.does
put_at found s t text (Err (Damaged k)) h = absurd h.does

-- of a file that was found
pub put_some : (s t : FolderState) (found : Option (List ℕ)) (tag asked text : List ℕ) (result : Result (Unit {0}) KeeperError) → found ≡ Some tag → asked ≡ tag → folder_calls.AfterEdits s (λ m. PutAnswer m t (has_tagged m status_file asked) text result) → PutsTo found s t text result
put_some s t found tag asked text result is same h =
    subst (λ (o : Option (List ℕ)). PutsTo o s t text result) (ap Some same ∙ sym is)
    (put_at (Some asked) s t text result (record { asked = h.moment; edits = h.edits; moment = h.moment; later = Runs-refl h.moment; does = h.does }))

-- where none was found the folder is made first
pub put_none : (s x t : FolderState) (found : Option (List ℕ)) (text : List ℕ) (result : Result (Unit {0}) KeeperError) → found ≡ None → folder_calls.AfterEdits s (λ m. MakeAnswer m x (Ok tt)) → folder_calls.AfterEdits x (λ m. PutAnswer m t (is_file_as_found None m) text result) → PutsTo found s t text result
put_none s x t found text result is makes h =
    subst (λ (o : Option (List ℕ)). PutsTo o s t text result) (sym is)
    (put_at None s t text result (record { asked = makes.moment; edits = makes.edits; moment = h.moment; later = subst (λ (y : FolderState). folders.Evolves folders.IsOutside y h.moment) makes.does h.edits; does = h.does }))

refused_at : (found : Option (List ℕ)) (s m t : FolderState) (text : List ℕ) (e : FolderError) → folders.Evolves folders.IsMaking s t → MakeAnswer m t (Err e) → PutsTo found s t text (Err (refusal_of e))
refused_at found s m t text folder_error.Fault run h = inl run
refused_at found s m t text folder_error.TooLong run h = absurd h
refused_at found s m t text folder_error.NoMemory run h = run

pub put_refused : (s t : FolderState) (found : Option (List ℕ)) (text : List ℕ) (e : FolderError) (r : KeeperError) → r ≡ refusal_of e → folders.Evolves folders.IsMaking s t → folder_calls.AfterEdits s (λ m. MakeAnswer m t (Err e)) → PutsTo found s t text (Err r)
put_refused s t found text e r same run h = subst (λ (x : KeeperError). PutsTo found s t text (Err x)) (sym same) (refused_at found s h.moment t text e run h.does)

-- of another name for the text and the result
pub put_same : (s t : FolderState) (found : Option (List ℕ)) (text other : List ℕ) (result answer : Result (Unit {0}) KeeperError) → text ≡ other → result ≡ answer → PutsTo found s t text result → PutsTo found s t other answer
put_same s t found text other result answer same is h =
    subst (λ (r : Result (Unit {0}) KeeperError). PutsTo found s t other r) is (subst (λ (x : List ℕ). PutsTo found s t x result) same h)

-- ---- a write of the file is a commit

commits_rows : (rows : List Row) (kept : Kept) → kept ≡ Ok rows → own_write (text_of rows) kept ≡ Committed rows
commits_rows rows kept means = ap (own_write (text_of rows)) means ∙ ap (λ (b : Bool). if b then Committed rows else Spoiled (Ok rows) (stamp_in true (Some (text_of rows)))) ((bytes_eq-Decides (text_of rows) (text_of rows)).1 refl)

committed : (m t : FolderState) (rows : List Row) → kept_of (Some (text_of rows)) ≡ Ok rows → t ≡ wrote m status_file (Some (text_of rows)) → state_of t ≡ happens (state_of m) (Committed rows)
committed m t rows means same = ap state_of same ∙ wrote_status m (text_of rows) ∙ ap (happens (state_of m)) (commits_rows rows (kept_of (Some (text_of rows))) means)

-- what is so at the moment of writing
placing_seen : (found : Option (List ℕ)) (s : FolderState) (D : FolderState → Type 0) (E : KeeperState → Type 0) → IsEmptyWhereAbsent s → ((m : FolderState) → IsEmptyWhereAbsent m → D m → E (state_of m)) → AfterMaking found s D → AfterPlacing found (state_of s) E
placing_seen found s D E law f h =
    let at_asked = empty_later s h.asked h.edits law in
    let at_moment = empty_later (folder_placed found h.asked) h.moment h.later (empty_placed found h.asked at_asked) in
    record {
      asked = state_of h.asked;
      edits = outside_seen s h.asked h.edits;
      moment = state_of h.moment;
      later = subst (λ (x : KeeperState). Evolves IsEdit x (state_of h.moment)) (placed_seen found h.asked at_asked) (outside_seen (folder_placed found h.asked) h.moment h.later);
      does = f h.moment at_moment h.does;
    }

put_seen : (found : Option (List ℕ)) (m t : FolderState) (rows : List Row) → kept_of (Some (text_of rows)) ≡ Ok rows → IsEmptyWhereAbsent m → Puts found (text_of rows) t m → Commits found rows (state_of t) (state_of m)
put_seen found m t rows means law h = (sym (met_seen found m law) ∙ h.0, committed m t rows means h.1)

pub commit_answer : (s t : FolderState) (found : Option (List ℕ)) (rows : List Row) (result : Result (Unit {0}) KeeperError) → IsEmptyWhereAbsent s → kept_of (Some (text_of rows)) ≡ Ok rows → PutsTo found s t (text_of rows) result → CommitAnswer found (state_of s) (state_of t) rows result
commit_answer s t found rows (Ok u) law means h = placing_seen found s (Puts found (text_of rows) t) (Commits found rows (state_of t)) law (λ m at_m does. put_seen found m t rows means at_m does) h
commit_answer s t found rows (Err Moved) law means h =
    placing_seen found s (λ m. (is_file_as_found found m ≡ false) × (t ≡ m)) (λ m. (is_as_found found m.stamp ≡ false) × (state_of t ≡ m)) law (λ m at_m does. (sym (met_seen found m at_m) ∙ does.0, ap state_of does.1)) h
commit_answer s t found rows (Err Fault) law means h = elim h [
  | inl run ↦ inl (making_seen s t run)
  | inr acted ↦ inr (placing_seen found s (Puts found (text_of rows) t) (Commits found rows (state_of t)) law (λ m at_m does. put_seen found m t rows means at_m does) acted)
]
commit_answer s t found rows (Err NoMemory) law means h = making_seen s t h
commit_answer s t found rows (Err TooLong) law means h = (outside_seen s t h.0, h.1)
commit_answer s t found rows (Err (Damaged k)) law means h = absurd h

-- a call that does nothing
pub nothing_put : (s : FolderState) (found : Option (List ℕ)) (text : List ℕ) → PutsTo found s s text (Err NoMemory)
nothing_put s found text = Runs-refl s

pub nothing_put_long : (s : FolderState) (found : Option (List ℕ)) (text : List ℕ) → max_status < length text → PutsTo found s s text (Err TooLong)
nothing_put_long s found text long = (Runs-refl s, long)

pub nothing_kept : (s : KeeperState) (found : Option (List ℕ)) (rows : List Row) → CommitAnswer found s s rows (Err NoMemory)
nothing_kept s found rows = Runs-refl s

pub nothing_kept_long : (s : KeeperState) (found : Option (List ℕ)) (rows : List Row) → max_status < length (text_of rows) → CommitAnswer found s s rows (Err TooLong)
nothing_kept_long s found rows long = (Runs-refl s, long)

-- what the text means
pub means_rows_of : (text : List ℕ) (rows : List Row) → text ≡ text_of rows → length text ≤ max_status → kept_text text ≡ Ok rows → kept_of (Some (text_of rows)) ≡ Ok rows
means_rows_of text rows same fits means = ap (λ (x : List ℕ). kept_of (Some x)) (sym same) ∙ kept_of-within text fits ∙ means

-- ---- the runs of the calls

edit_is_commit : (rows : List Row) (e : KeeperEvent) → IsEdit e → IsCommitOf rows e
edit_is_commit rows (Edited kept stamp) h = tt
edit_is_commit rows Toggled h = tt
edit_is_commit rows Made h = tt
edit_is_commit rows (Committed committed) h = absurd h
edit_is_commit rows (Spoiled kept stamp) h = h

making_is_commit : (rows : List Row) (e : KeeperEvent) → IsMaking e → IsCommitOf rows e
making_is_commit rows (Edited kept stamp) h = tt
making_is_commit rows Toggled h = tt
making_is_commit rows Made h = tt
making_is_commit rows (Committed committed) h = absurd h
making_is_commit rows (Spoiled kept stamp) h = h

along : {Kind : KeeperEvent → Type 0} (s m t : KeeperState) → Evolves Kind s m → t ≡ m → Evolves Kind s t
along {Kind} s m t run same = subst (λ (x : KeeperState). Evolves Kind s x) (sym same) run

loaded_at : (s m t : KeeperState) (result : Result (Vec Row Global) KeeperError) → Evolves IsEdit s m → LoadAnswer m t result → Evolves IsEdit s t
loaded_at s m t (Ok rows) run h = along s m t run h.0
loaded_at s m t (Err (Damaged k)) run h = along s m t run h.0
loaded_at s m t (Err TooLong) run h = along s m t run h.0
loaded_at s m t (Err Moved) run h = absurd h
loaded_at s m t (Err Fault) run h = along s m t run h
loaded_at s m t (Err NoMemory) run h = along s m t run h

pub load_run : (s t : KeeperState) (result : Result (Vec Row Global) KeeperError) → AfterEdits s (λ m. LoadAnswer m t result) → Evolves IsEdit s t
load_run s t result h = loaded_at s h.moment t result h.edits h.does

one_commit : (found : Option (List ℕ)) (s t : KeeperState) (rows : List Row) → AfterPlacing found s (Commits found rows t) → Evolves (IsCommitOf rows) s t
one_commit found s t rows h =
    along s (happens h.moment (Committed rows)) t (Runs-trans (Runs-weaker (making_is_commit rows) (placing_run found s _ h)) (Runs-one h.moment (Committed rows) refl tt)) h.does.1

pub commit_run : (found : Option (List ℕ)) (s t : KeeperState) (rows : List Row) (result : Result (Unit {0}) KeeperError) → CommitAnswer found s t rows result → Evolves (IsCommitOf rows) s t
commit_run found s t rows (Ok u) h = one_commit found s t rows h
commit_run found s t rows (Err Fault) h = elim h [ inl run ↦ Runs-weaker (making_is_commit rows) run | inr acted ↦ one_commit found s t rows acted ]
commit_run found s t rows (Err Moved) h = along s h.moment t (Runs-weaker (making_is_commit rows) (placing_run found s _ h)) h.does.1
commit_run found s t rows (Err TooLong) h = Runs-weaker (edit_is_commit rows) h.0
commit_run found s t rows (Err NoMemory) h = Runs-weaker (making_is_commit rows) h
commit_run found s t rows (Err (Damaged k)) h = absurd h
