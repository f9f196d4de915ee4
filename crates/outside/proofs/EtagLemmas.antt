-- A stream that is hashed piece by piece.
use Rattle.std.proofs.Common.{◌≡◌, ℕ, List, [], ◌++◌, Option, Some, None, refl, sym, ◌∙◌, ap, subst, append_assoc, append-nil}
use Rattle.std.specs.Prelude.{IfSome}
use Rattle.std.specs.Io.KnownBytes.{Consumes, IsAtEnd}

-- all is what was hashed and what is left
pub record IsHalfway (Holds : List ℕ → Type 0) (left : Option (List ℕ)) (all : List ℕ) : Type 0 where
  pub done : List ℕ
  pub rest : List ℕ
  pub holds : Holds done
  pub left_is : left ≡ Some rest
  pub both : all ≡ done ++ rest

pub begun : (Holds : List ℕ → Type 0) (left : Option (List ℕ)) (all : List ℕ) → Holds [] → left ≡ Some all → IsHalfway Holds left all
begun Holds left all holds is = record { done = []; rest = all; holds = holds; left_is = is; both = refl }

consumed : (rest piece : List ℕ) (left : Option (List ℕ)) → Consumes (Some rest) left piece → (behind : List ℕ) × (left ≡ Some behind) × (rest ≡ piece ++ behind)
consumed rest piece None h = absurd h
consumed rest piece (Some behind) h = (behind, refl, h)

pub one_more : (Holds Holds' : List ℕ → Type 0) (left left' : Option (List ℕ)) (all piece : List ℕ) → ((m : List ℕ) → Holds m → Holds' (m ++ piece)) → Consumes left left' piece → IsHalfway Holds left all → IsHalfway Holds' left' all
one_more Holds Holds' left left' all piece more h half =
    let next = consumed half.rest piece left' (subst (λ (o : Option (List ℕ)). Consumes o left' piece) half.left_is h) in
    record {
      done = half.done ++ piece;
      rest = next.0;
      holds = more half.done half.holds;
      left_is = next.1;
      both = half.both ∙ ap (λ (r : List ℕ). half.done ++ r) next.2 ∙ sym (append_assoc half.done piece next.0);
    }

at_end : (left : Option (List ℕ)) (rest : List ℕ) → left ≡ Some rest → IsAtEnd left → rest ≡ []
at_end None rest is h = cc
at_end (Some xs) rest is h = let same : xs ≡ rest = cc in sym same ∙ h

-- nothing is left: all was hashed
pub all_held : (Holds : List ℕ → Type 0) (left left' : Option (List ℕ)) (all : List ℕ) → Consumes left left' [] → IsAtEnd left' → IsHalfway Holds left all → Holds all
all_held Holds left left' all h ended half =
    let next = consumed half.rest [] left' (subst (λ (o : Option (List ℕ)). Consumes o left' []) half.left_is h) in
    let none : half.rest ≡ [] = next.2 ∙ at_end left' next.0 next.1 ended in
    subst Holds (sym (half.both ∙ ap (λ (r : List ℕ). half.done ++ r) none ∙ append-nil half.done)) half.holds

pub where_some : (o : Option (List ℕ)) (P : List ℕ → Type 0) → ((x : List ℕ) → o ≡ Some x → P x) → IfSome o P
where_some None P h = tt
where_some (Some x) P h = h x refl
