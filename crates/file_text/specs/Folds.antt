-- Folds: how a logical line is written in physical lines of at most 75 bytes.
use Rattle.std.specs.Prelude.{◌≡◌, ℕ, zero, suc, ◌<◌, ◌≤◌, Bool, true, ◌&&◌, not, nat_le, nat_lt, if◌then◌else◌, List, [], ◌∷◌, ◌++◌, length, take, drop}

-- a byte that goes on with a character of UTF-8 (RFC 3629)
abbrev pub goes_on : ℕ → Bool
goes_on b = nat_le 128 b && nat_lt b 192

-- between what stands before and this text no character is cut
unfoldable pub is_border : List ℕ → Bool
is_border [] = true
is_border (b ∷ bs) = not (goes_on b)

-- the most bytes at the front of a text, no more than n, behind which no character is cut
unfoldable pub fitting : ℕ → List ℕ → ℕ
fitting zero text = zero
fitting (suc n) text = if nat_le (suc n) (length text) && is_border (drop (suc n) text) then suc n else fitting n text

-- the pieces of a text that are written, where the first may have n bytes: the last is what is left, each other as long as fits
abbrev pub ArePieces : ℕ → List ℕ → List (List ℕ) → Type 0
ArePieces n text [] = ⊥
ArePieces n text (piece ∷ []) = (piece ≡ text) × (length text ≤ n)
ArePieces n text (piece ∷ next ∷ more) = (n < length text) × (piece ≡ take (fitting n text) text) × ArePieces 74 (drop (fitting n text) text) (next ∷ more)

-- pieces, each behind the first begun by a space, each ended by CRLF
unfoldable pub behind_piece : List (List ℕ) → List ℕ
behind_piece [] = 13 ∷ 10 ∷ []
behind_piece (piece ∷ more) = 13 ∷ 10 ∷ 32 ∷ piece ++ behind_piece more

unfoldable pub folded_of : List (List ℕ) → List ℕ
folded_of [] = []
folded_of (piece ∷ more) = piece ++ behind_piece more

-- the bytes of a logical line written folded: RFC 5545 section 3.1, RFC 6350 section 3.2
pub record IsFolded (line bytes : List ℕ) : Type 0 where
  pub pieces : List (List ℕ)
  pub are : ArePieces 75 line pieces
  pub written : bytes ≡ folded_of pieces
