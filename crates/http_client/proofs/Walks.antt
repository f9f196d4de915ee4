-- Lemmas on reading by steps, of specs/Frames.antt
use Rattle.std.proofs.Common.{ℕ, List, [], ◌∷◌, ◌++◌, sym, subst, append_assoc}
use Rattle.std.proofs.lemmas.List.{append-nil}
use Rattle.http_client.specs.Frames.{Step, onward, ended, Repeats}

-- what was read leads from bytes to what is left
pub record Leads {A B : Type 0} (Reads : List ℕ → Step A B → Type 0) (bytes rest : List ℕ) (done : List A) : Type 0 where
  pub on : (more : List A) (answer : B) → Repeats Reads rest more answer → Repeats Reads bytes (done ++ more) answer

pub Leads-start : {A B : Type 0} (Reads : List ℕ → Step A B → Type 0) (bytes : List ℕ) → Leads Reads bytes bytes []
Leads-start Reads bytes = record { on = λ more answer h. h }

pub Leads-more : {A B : Type 0} (Reads : List ℕ → Step A B → Type 0) (bytes rest behind : List ℕ) (done : List A) (a : A)
    → Leads Reads bytes rest done → Reads rest (onward a behind) → Leads Reads bytes behind (done ++ a ∷ [])
Leads-more Reads bytes rest behind done a led step = record {
  on = λ more answer h.
      subst (λ all. Repeats Reads bytes all answer) (sym (append_assoc done (a ∷ []) more)) (led.on (a ∷ more) answer (behind, step, h));
}

pub Leads-end : {A B : Type 0} (Reads : List ℕ → Step A B → Type 0) (bytes rest : List ℕ) (done : List A) (answer : B)
    → Leads Reads bytes rest done → Reads rest (ended answer) → Repeats Reads bytes done answer
Leads-end Reads bytes rest done answer led step =
    subst (λ all. Repeats Reads bytes all answer) (append-nil done) (led.on [] answer step)
