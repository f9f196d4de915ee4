-- Feeding: what a hasher holds while the lines of a normal form are fed to it.
use Rattle.std.proofs.Common.{◌≡◌, ℕ, List, [], ◌∷◌, ◌++◌, refl, ◌∙◌, ap, append_assoc}
use Rattle.sha2.specs.declared.Sha256.{Sha256}
use Rattle.sha2.specs.Hashers.{Holds256}
use Rattle.item_text.specs.NormalForm.{joined, each_behind_end}

-- lines with ends between them, the first of them behind `between`
unfoldable pub spread : List ℕ → List (List ℕ) → List ℕ
spread between [] = []
spread between (line ∷ rest) = (between ++ line) ++ each_behind_end rest

-- the hasher holds what stands before the rest of all lines
pub record Fed (hasher : Sha256) (between : List ℕ) (rest all : List (List ℕ)) : Type 0 where
  pub message : List ℕ
  pub held : Holds256 hasher message
  pub is : message ++ spread between rest ≡ joined all

pub spread-none : (all : List (List ℕ)) → spread [] all ≡ joined all
unfolding spread joined
spread-none [] = refl
spread-none (line ∷ rest) = refl

spread-end : (all : List (List ℕ)) → spread (13 ∷ 10 ∷ []) all ≡ each_behind_end all
unfolding spread each_behind_end
spread-end [] = refl
spread-end (line ∷ rest) = refl

pub spread-more : (message between line : List ℕ) (rest : List (List ℕ)) → ((message ++ between) ++ line) ++ spread (13 ∷ 10 ∷ []) rest ≡ message ++ spread between (line ∷ rest)
unfolding spread
spread-more message between line rest = ap (λ (w : List ℕ). ((message ++ between) ++ line) ++ w) (spread-end rest) ∙ simp append_assoc
