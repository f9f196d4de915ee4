-- The file of the configuration was read from a place that was handed out and put back.
use Rattle.std.proofs.Common.{◌≡◌, ◌≢◌, ◌≤◌, ◌⊎◌, inl, inr, ℕ, List, Option, Some, None, Result, Err, ap, sym, ◌∙◌, subst, arith}
use Rattle.outfits.specs.Places.{Place, ChangesOnly, IsSame, IsWhole}
use Rattle.outside.proofs.Runs.{Runs-refl}
use Rattle.vdirsyncer_cli.specs.declared.file_error.FileError.{FileError}
use Rattle.vdirsyncer_cli.specs.declared.file_error.FileError.TheVariants as error
use Rattle.vdirsyncer_cli.specs.Places.{Places, place_at}
use Rattle.vdirsyncer_cli.specs.ConfigRead.{FileStep, FileRead}
use Rattle.vdirsyncer_cli.proofs.PlaceLaws.{same_or_not}
use Rattle.vdirsyncer_cli.proofs.OpenedLaws.{stands_at, some_is_not_none}

-- equal places, of which less is told
pub file_step_at : (old new p p' : Place) (T t : Type 0) (name : List ℕ) (result : Result (List ℕ) FileError) → old ≡ p → new ≡ p' → (t → T) → FileStep p p' T name result → FileStep old new t name result
file_step_at old new p p' T t name result e e' f step =
    let at : FileStep p p' t name result = record { later = step.later; cause = step.cause; told = λ told. step.told (f told) } in
    subst (λ (x : Place). FileStep x new t name result) (sym e) (subst (λ (x : Place). FileStep p x t name result) (sym e') at)

-- handed out, read, put back
pub read_and_back : (p0 p1 p2 : Places) (tells : List ℕ → Type 0) (T : Type 0) (folder name : List ℕ) (x y : Place) (result : Result (List ℕ) FileError) → p0 folder ≡ Some x → ChangesOnly p0 p1 folder None → ChangesOnly p1 p2 folder (Some y) → (tells folder → T) → FileStep x y T name result → FileRead p0 p2 tells folder name result
read_and_back p0 p1 p2 tells T folder name x y result stood opened given told step =
    record {
      step = file_step_at _ _ x y T (tells folder) name result (stands_at p0 folder x stood) (stands_at p2 folder y given.here) told step;
      others = λ q apart. given.others q apart ∙ opened.others q apart;
    }

-- no place is out again
pub whole_back : (p0 p1 p2 : Places) (folder : List ℕ) (y : Place) → IsWhole p0 → ChangesOnly p0 p1 folder None → ChangesOnly p1 p2 folder (Some y) → IsWhole p2
whole_back p0 p1 p2 folder y whole opened given q = decided (same_or_not q folder) where
  decided : (q ≡ folder) ⊎ (q ≢ folder) → p2 q ≢ None
  decided (inl e) = some_is_not_none _ _ (ap p2 e ∙ given.here)
  decided (inr d) = λ n. whole q (sym (given.others q d ∙ opened.others q d) ∙ n)

-- memory ran out before the place was handed out
pub not_read : (p0 p1 : Places) (tells : List ℕ → Type 0) (folder name : List ℕ) → IsSame p0 p1 → FileRead p0 p1 tells folder name (Err error.NoMemory)
not_read p0 p1 tells folder name same =
    let e : place_at p1 folder ≡ place_at p0 folder = ap (λ (o : Option Place). place_at (λ q. o) folder) (same folder) in
    record {
      step = record {
        later = subst (λ (x : Place). (place_at p0 folder).faults ≤ x.faults) (sym e) (omega arith);
        cause = λ is. absurd (let clash : Err error.NoMemory ≡ Err error.Fault = is in cc);
        told = λ told. record { moment = (place_at p0 folder).state; edits = Runs-refl (place_at p0 folder).state; does = ap (λ (x : Place). x.state) e };
      };
      others = λ q apart. same q;
    }

-- under its own words
pub read_named : (p0 p2 : Places) (tells : List ℕ → Type 0) (path folder n name : List ℕ) (result : Result (List ℕ) FileError) → path ≡ folder → n ≡ name → FileRead p0 p2 tells path n result → FileRead p0 p2 tells folder name result
read_named p0 p2 tells path folder n name result e f h =
    subst (λ (x : List ℕ). FileRead p0 p2 tells x name result) e (subst (λ (y : List ℕ). FileRead p0 p2 tells path y result) f h)
