-- No run leaves a side that came to be empty, where some ident is due a version.
use Rattle.std.proofs.Common.{◌≡◌, ◌⊎◌, inl, inr, ℕ, Bool, true, false, cond, List, [], ◌∷◌, Option, Some, None, Contains, refl, sym, ◌∙◌, ap, subst}
use Rattle.std.specs.Prelude.{◌||◌}
use Rattle.std.specs.Str.{bytes_eq}
use Rattle.sync_plan.specs.declared.report.Side.{Side}
use Rattle.sync_plan.specs.declared.report.Side.TheVariants.{A, B}
use Rattle.sync_plan.specs.declared.rules.ConflictRule.{ConflictRule}
use Rattle.sync_plan.specs.declared.rules.ConflictRule.TheVariants.{Null, AWins, BWins, Command}
use Rattle.sync_plan.specs.declared.rules.Rules.{Rules}
use Rattle.sync_plan.specs.declared.dues.Step.{Step}
use Rattle.sync_plan.specs.declared.dues.Step.TheVariants.{Forget, Keep, CopyTo, WriteOver, RemoveFrom, HandOver, Conflict, Held}
use Rattle.sync_plan.specs.Verdicts.{Versions, Due, Gone, At, Unsettled, Verdict, verdict, by_rule, differing, by_sides, table, is_read_only, hold, other_side, due_of, step_of, IsSettled, IsUndisputed}
use Rattle.sync_plan.specs.JobSteps.{on_side, IsWas, IsHeldBack, StatusStep, JobStep}
use Rattle.sync_plan.specs.Stories.{Run, IsRun, IsWholeStory, HasSome, HasRow, IsEmptied, IsFull}
use Rattle.sync_plan.proofs.Facts.{versions, Fits, verdict_fits}
use Rattle.sync_plan.proofs.Keeping.{Ends, sides_end, ident_keeps}

-- the table holds nothing by itself
abbrev IsRaw : Step → Type 0
IsRaw Forget = Unit {0}
IsRaw Keep = Unit {0}
IsRaw (CopyTo side) = Unit {0}
IsRaw (WriteOver side) = Unit {0}
IsRaw (RemoveFrom side) = Unit {0}
IsRaw HandOver = Unit {0}
IsRaw Conflict = Unit {0}
IsRaw (Held side) = ⊥

by_rule_raw : (rule : ConflictRule) (v w : List ℕ) → IsRaw (by_rule rule v w).step
by_rule_raw AWins v w = tt
by_rule_raw BWins v w = tt
by_rule_raw Command v w = tt
by_rule_raw Null v w = tt

either_raw : (p : Bool) (x y : Verdict) → IsRaw x.step → IsRaw y.step → IsRaw (cond p x y).step
either_raw true x y at_x at_y = at_x
either_raw false x y at_x at_y = at_y

table_raw : (rule : ConflictRule) (a b s : Option (List ℕ)) → IsRaw (by_sides rule a b s).step
table_raw rule None None s = tt
table_raw rule (Some v) None None = tt
table_raw rule (Some v) None (Some s) = either_raw (bytes_eq v s) (verdict Gone (RemoveFrom A)) (verdict (At v) (CopyTo B)) tt tt
table_raw rule None (Some w) None = tt
table_raw rule None (Some w) (Some s) = either_raw (bytes_eq w s) (verdict Gone (RemoveFrom B)) (verdict (At w) (CopyTo A)) tt tt
table_raw rule (Some v) (Some w) None = either_raw (bytes_eq v w) (verdict (At v) Keep) (by_rule rule v w) tt (by_rule_raw rule v w)
table_raw rule (Some v) (Some w) (Some s) = either_raw (bytes_eq v w) (verdict (At v) Keep) (differing rule v w (Some s)) tt (either_raw (bytes_eq v s) (verdict (At w) (WriteOver A)) (cond (bytes_eq w s) (verdict (At v) (WriteOver B)) (by_rule rule v w)) tt (either_raw (bytes_eq w s) (verdict (At v) (WriteOver B)) (by_rule rule v w) tt (by_rule_raw rule v w)))

-- a step writes to no read-only side, and is held only at one
abbrev pub Allows : Rules → Step → Type 0
Allows rules Forget = Unit {0}
Allows rules Keep = Unit {0}
Allows rules (CopyTo side) = is_read_only rules side ≡ false
Allows rules (WriteOver side) = is_read_only rules side ≡ false
Allows rules (RemoveFrom side) = is_read_only rules side ≡ false
Allows rules HandOver = (rules.a_read_only || rules.b_read_only) ≡ false
Allows rules Conflict = Unit {0}
Allows rules (Held side) = is_read_only rules side ≡ true

either_allows : (rules : Rules) (p : Bool) (due : Due) (step : Step) (side : Side) → (p ≡ true → is_read_only rules side ≡ true) → (p ≡ false → Allows rules step) → Allows rules (cond p (verdict Unsettled (Held side)) (verdict due step)).step
either_allows rules true due step side on off = on refl
either_allows rules false due step side on off = off refl

hold_allows : (rules : Rules) (due : Due) (step : Step) → IsRaw step → Allows rules (hold rules due step).step
hold_allows rules due Forget raw = tt
hold_allows rules due Keep raw = tt
hold_allows rules due (CopyTo side) raw = either_allows rules (is_read_only rules side) due (CopyTo side) side (λ e. e) (λ e. e)
hold_allows rules due (WriteOver side) raw = either_allows rules (is_read_only rules side) due (WriteOver side) side (λ e. e) (λ e. e)
hold_allows rules due (RemoveFrom side) raw = either_allows rules (is_read_only rules side) due (RemoveFrom side) side (λ e. e) (λ e. e)
hold_allows rules due HandOver raw = at (rules.a_read_only || rules.b_read_only) refl
  where
    at : (p : Bool) → (rules.a_read_only || rules.b_read_only) ≡ p → Allows rules (cond p (verdict Unsettled Conflict) (verdict due HandOver)).step
    at true e = tt
    at false e = e
hold_allows rules due Conflict raw = tt
hold_allows rules due (Held side) raw = absurd raw

pub step_allows : (rules : Rules) (v : Versions) → Allows rules (step_of rules v)
step_allows rules v = hold_allows rules (table rules.conflict v).due (table rules.conflict v).step (table_raw rules.conflict v.a v.b v.s)

-- an ident that is due a version and absent from a side is copied there
pub Absent : (step : Step) (due : Due) (v : Versions) (version : List ℕ) (side : Side) → Fits step due v → due ≡ At version → on_side side v ≡ None → (step ≡ CopyTo side) × (on_side (other_side side) v ≡ Some version)
Absent Forget due v version side fits is none = absurd (let h = fits.0 in cc)
Absent Keep due v version A fits is none = absurd (let h = fits.2 in cc)
Absent Keep due v version B fits is none = absurd (let h = fits.3 in cc)
Absent (CopyTo A) due v version A fits is none = (refl, let h : due ≡ At fits.0 = fits.1 in let k : v.b ≡ Some fits.0 = fits.3 in cc)
Absent (CopyTo B) due v version B fits is none = (refl, let h : due ≡ At fits.0 = fits.1 in let k : v.a ≡ Some fits.0 = fits.3 in cc)
Absent (CopyTo A) due v version B fits is none = absurd (let k : v.b ≡ Some fits.0 = fits.3 in cc)
Absent (CopyTo B) due v version A fits is none = absurd (let k : v.a ≡ Some fits.0 = fits.3 in cc)
Absent (WriteOver A) due v version A fits is none = absurd (let k : v.a ≡ Some fits.2.0 = fits.2.1 in cc)
Absent (WriteOver B) due v version B fits is none = absurd (let k : v.b ≡ Some fits.2.0 = fits.2.1 in cc)
Absent (WriteOver A) due v version B fits is none = absurd (let k : v.b ≡ Some fits.0 = fits.3 in cc)
Absent (WriteOver B) due v version A fits is none = absurd (let k : v.a ≡ Some fits.0 = fits.3 in cc)
Absent (RemoveFrom from) due v version side fits is none = absurd (let h = fits.0 in cc)
Absent HandOver due v version side fits is none = absurd (cc)
Absent Conflict due v version side fits is none = absurd (cc)
Absent (Held to) due v version side fits is none = absurd (cc)

some_or_none : (o : Option (List ℕ)) → ((x : List ℕ) × (o ≡ Some x)) ⊎ (o ≡ None)
some_or_none (Some x) = inl (x, refl)
some_or_none None = inr refl

undisputed_at : (rules : Rules) (v : Versions) (version : List ℕ) → due_of rules v ≡ At version → IsUndisputed rules v
undisputed_at rules v version is = subst (λ (d : Due). IsSettled d) (sym is) tt

-- on a side where it was, or was to be put, an ident that is due a version is there after the run, or the side is as it was
ends_there : (due : Due) (old : Versions) (a b : Option (List ℕ)) (side : Side) (version : List ℕ) → due ≡ At version → Ends due old a b → (on_side side (versions a b None) ≡ Some version) ⊎ (on_side side (versions a b None) ≡ on_side side old)
ends_there due old a b A version is (inl (same_a, same_b)) = inr same_a
ends_there due old a b B version is (inl (same_a, same_b)) = inr same_b
ends_there due old a b side version is (inr (None, at, at_a, at_b)) = absurd (cc)
ends_there due old a b A version is (inr (Some x, at, at_a, at_b)) = inl (let h : At version ≡ At x = sym is ∙ at in cc)
ends_there due old a b B version is (inr (Some x, at, at_a, at_b)) = inl (let h : At version ≡ At x = sym is ∙ at in cc)

-- one run whose idents no edit from outside touches
module _ (rules : Rules) (Untouched : List ℕ → Type 0) (old new : List ℕ → Versions) (wrote_a wrote_b : List ℕ → Type 0) (run : JobStep rules Untouched old new wrote_a wrote_b) (untouched : (ident : List ℕ) → Untouched ident) (ident version : List ℕ) (is_due : due_of rules (old ident) ≡ At version) where
  there : (side : Side) → (on_side side (new ident) ≡ Some version) ⊎ (on_side side (new ident) ≡ on_side side (old ident))
  there A = ends_there (due_of rules (old ident)) (old ident) (new ident).a (new ident).b A version is_due (let one = run.each ident (untouched ident) in sides_end rules one.answer (old ident) (new ident).a (new ident).b (undisputed_at rules (old ident) version is_due) one.side_a one.side_b)
  there B = ends_there (due_of rules (old ident)) (old ident) (new ident).a (new ident).b B version is_due (let one = run.each ident (untouched ident) in sides_end rules one.answer (old ident) (new ident).a (new ident).b (undisputed_at rules (old ident) version is_due) one.side_a one.side_b)

  here : (side : Side) (x : List ℕ) → on_side side (new ident) ≡ Some x → HasSome side new
  here side x is = record { ident = ident; version = x; here = is }

  -- a side that isn't empty stays so
  stays : (side : Side) → HasSome side old → HasSome side new
  stays side some = at (there side)
    where
      gone : on_side side (old ident) ≡ None → on_side side (new some.ident) ≡ None → HasSome side new
      gone none lost =
          let put = Absent (step_of rules (old ident)) (due_of rules (old ident)) (old ident) version side (verdict_fits rules (old ident)) is_due none in
          here side version (run.puts_first side some.ident ident (untouched some.ident) ((some.version, some.here), lost) (untouched ident) (inl put.0) ∙ put.1)

      other : on_side side (old ident) ≡ None → ((x : List ℕ) × (on_side side (new some.ident) ≡ Some x)) ⊎ (on_side side (new some.ident) ≡ None) → HasSome side new
      other none (inl (x, is)) = record { ident = some.ident; version = x; here = is }
      other none (inr lost) = gone none lost

      kept : on_side side (new ident) ≡ on_side side (old ident) → ((x : List ℕ) × (on_side side (old ident) ≡ Some x)) ⊎ (on_side side (old ident) ≡ None) → HasSome side new
      kept same (inl (x, is)) = here side x (same ∙ is)
      kept same (inr none) = other none (some_or_none (on_side side (new some.ident)))

      at : (on_side side (new ident) ≡ Some version) ⊎ (on_side side (new ident) ≡ on_side side (old ident)) → HasSome side new
      at (inl is) = here side version is
      at (inr same) = kept same (some_or_none (on_side side (old ident)))

  -- a read-only side has what is due a version
  on_read_only : (side : Side) → is_read_only rules side ≡ true → HasSome side old
  on_read_only side is = at (some_or_none (on_side side (old ident)))
    where
      at : ((x : List ℕ) × (on_side side (old ident) ≡ Some x)) ⊎ (on_side side (old ident) ≡ None) → HasSome side old
      at (inl (x, stands)) = record { ident = ident; version = x; here = stands }
      at (inr none) =
          let put = Absent (step_of rules (old ident)) (due_of rules (old ident)) (old ident) version side (verdict_fits rules (old ident)) is_due none in
          absurd (let no : is_read_only rules side ≡ false = subst (λ (step : Step). Allows rules step) put.0 (step_allows rules (old ident)) in cc)

  was_there : (side : Side) (p : List ℕ) (o x : Option (List ℕ)) (w : List ℕ) → IsWas (on_side side (old p)) (on_side side (new p)) o → o ≡ Some w → HasSome side new
  was_there side p o x w (inl before) is = stays side (record { ident = p; version = w; here = sym before ∙ is })
  was_there side p o x w (inr after) is = record { ident = p; version = w; here = sym after ∙ is }

  held_there : (side : Side) (p w : List ℕ) (held : IsHeldBack rules (old p) (new p)) → held.side ≡ side → (new p).s ≡ Some w → HasSome A new × HasSome B new
  held_there A p w held is row =
      let ro : is_read_only rules A ≡ true = subst (λ (step : Step). Allows rules step) (held.is_held ∙ ap Held is) (step_allows rules held.moment) in
      let stands : held.moment.b ≡ Some w = sym (ap (λ (s : Side). on_side (other_side s) held.moment) is) ∙ (sym held.row ∙ row) in
      (stays A (on_read_only A ro), was_there B p held.moment.b None w held.was_b stands)
  held_there B p w held is row =
      let ro : is_read_only rules B ≡ true = subst (λ (step : Step). Allows rules step) (held.is_held ∙ ap Held is) (step_allows rules held.moment) in
      let stands : held.moment.a ≡ Some w = sym (ap (λ (s : Side). on_side (other_side s) held.moment) is) ∙ (sym held.row ∙ row) in
      (was_there A p held.moment.a None w held.was_a stands, stays B (on_read_only B ro))

  -- where there is a row, neither side is empty
  pub full_after : (HasRow old → HasSome A old × HasSome B old) → HasRow new → HasSome A new × HasSome B new
  full_after before row = at (run.each row.ident (untouched row.ident)).row
    where
      at : StatusStep rules (old row.ident) (new row.ident) → HasSome A new × HasSome B new
      at (inl same) = let both = before (record { ident = row.ident; version = row.version; here = sym same ∙ row.here }) in (stays A both.0, stays B both.1)
      at (inr (inl (is_a, is_b))) = (record { ident = row.ident; version = row.version; here = is_a ∙ row.here }, record { ident = row.ident; version = row.version; here = is_b ∙ row.here })
      at (inr (inr held)) = held_there held.side row.ident row.version held refl row.here

same_side : (side : Side) (s t : List ℕ → Versions) → ((ident : List ℕ) → s ident ≡ t ident) → HasSome side s → HasSome side t
same_side side s t same some = record { ident = some.ident; version = some.version; here = sym (ap (λ (v : Versions). on_side side v) (same some.ident)) ∙ some.here }

same_full : (s t : List ℕ → Versions) → ((ident : List ℕ) → s ident ≡ t ident) → (HasRow s → HasSome A s × HasSome B s) → HasRow t → HasSome A t × HasSome B t
same_full s t same full row =
    let both = full (record { ident = row.ident; version = row.version; here = ap (λ (v : Versions). v.s) (same row.ident) ∙ row.here }) in
    (same_side A s t same both.0, same_side B s t same both.1)

pub story_full : (rules : Rules) (first : List ℕ → Versions) (runs : List Run) (last : List ℕ → Versions) (ident version : List ℕ) → due_of rules (first ident) ≡ At version → (HasRow first → HasSome A first × HasSome B first) → IsWholeStory rules first runs last → HasRow last → HasSome A last × HasSome B last
story_full rules first [] last ident version is_due full story = same_full first last story full
story_full rules first (run ∷ runs) last ident version is_due full story =
    let step : IsRun rules run = (story ident).2 in
    let untouched : (i : List ℕ) → ¬ Contains run.touched i = λ i. (story i).1 in
    let before : due_of rules (run.before ident) ≡ At version = ap (λ (v : Versions). due_of rules v) (sym (story ident).0) ∙ is_due in
    let after : due_of rules (run.after ident) ≡ At version = ident_keeps rules (run.before ident) (run.after ident) (Contains run.writes_a ident) (Contains run.writes_b ident) (step.each ident (untouched ident)) (undisputed_at rules (run.before ident) version before) ∙ before in
    let at_before : HasRow run.before → HasSome A run.before × HasSome B run.before = same_full first run.before (λ i. (story i).0) full in
    story_full rules run.after runs last ident version after (full_after rules (λ (i : List ℕ). ¬ Contains run.touched i) run.before run.after (λ (i : List ℕ). Contains run.writes_a i) (λ (i : List ℕ). Contains run.writes_b i) step untouched ident version before at_before) (λ i. (story i).3)

full_first : (first : List ℕ → Versions) → IsFull first → HasRow first → HasSome A first × HasSome B first
full_first first (inl none) row = absurd (let clash : None ≡ Some row.version = sym (none row.ident) ∙ row.here in cc)
full_first first (inr both) row = both

not_empty : (side : Side) (last : List ℕ → Versions) → HasSome A last × HasSome B last → ((ident : List ℕ) → on_side side (last ident) ≡ None) → ⊥
not_empty A last both none = let clash : None ≡ Some both.0.version = sym (none both.0.ident) ∙ both.0.here in cc
not_empty B last both none = let clash : None ≡ Some both.1.version = sym (none both.1.ident) ∙ both.1.here in cc

pub never_emptied : (rules : Rules) (first last : List ℕ → Versions) (runs : List Run) (ident version : List ℕ) (side : Side) → IsFull first → due_of rules (first ident) ≡ At version → IsWholeStory rules first runs last → IsEmptied side last → ⊥
never_emptied rules first last runs ident version side full is_due story emptied = not_empty side last (story_full rules first runs last ident version is_due (full_first first full) story emptied.row) emptied.none

-- what was to be copied is there, where something was removed
pub put_is_there : (rules : Rules) (run : Run) (gone put old version : List ℕ) → IsRun rules run → ¬ Contains run.touched gone → ¬ Contains run.touched put → rules.a_read_only ≡ false → run.before gone ≡ versions (Some old) None (Some old) → run.before put ≡ versions None (Some version) None → (run.after gone).a ≡ None → (run.after put).a ≡ Some version
put_is_there rules run gone put old version step quiet_gone quiet_put writable at_gone at_put lost =
    let steps : step_of rules (run.before put) ≡ CopyTo A = ap (λ (v : Versions). step_of rules v) at_put ∙ ap (λ (p : Bool). (cond p (verdict Unsettled (Held A)) (verdict (At version) (CopyTo A))).step) writable in
    step.puts_first A gone put quiet_gone ((old, ap (λ (v : Versions). v.a) at_gone), lost) quiet_put (inl steps) ∙ ap (λ (v : Versions). v.b) at_put
