-- Lemmas on the empty lines of specs/Frames.antt
use Rattle.std.proofs.Common.{◌≡◌, ◌≢◌, refl, ℕ, ◌+◌, ◌<◌, List, Option, Some, None, cond, length, take, drop, get_or, eqb, ◌-◌, sym, ◌∙◌, ap, arith}
use Rattle.std.specs.Option.{option_map, option_or}
use Rattle.std.proofs.lemmas.List.{drop_more, take_rest}
use Rattle.std.proofs.lemmas.Bool.Decides.{eqb_tells}
use Rattle.http_client.specs.Frames.{line_end_len, empty_line_end}

shifted : (n : ℕ) (o : Option ℕ) → option_map (λ m. n + m) (option_map (λ m. m + 1) o) ≡ option_map (λ m. n + 1 + m) o
shifted n None = refl
shifted n (Some m) = let e : n + (m + 1) ≡ n + 1 + m = omega arith in ap Some e

-- what begins behind the byte at an index
abbrev pub begins : List ℕ → ℕ → Option ℕ
begins bytes at = cond (eqb (get_or bytes at 0) 10) (line_end_len (drop (at + 1) bytes)) None

opened : (bytes : List ℕ) (at : ℕ) → at < length bytes
    → empty_line_end (drop at bytes) ≡ option_map (λ m. m + 1) (option_or (begins bytes at) (empty_line_end (drop (at + 1) bytes)))
opened bytes at lt = ap empty_line_end (drop_more bytes at 0 lt)

pub empty_onward : (bytes : List ℕ) (at : ℕ) (all : Option ℕ) → at < length bytes
    → option_map (λ n. at + n) (empty_line_end (drop at bytes)) ≡ all → begins bytes at ≡ None
    → option_map (λ n. at + 1 + n) (empty_line_end (drop (at + 1) bytes)) ≡ all
empty_onward bytes at all lt now none =
    sym (shifted at (empty_line_end (drop (at + 1) bytes)))
    ∙ ap (λ first. option_map (λ n. at + n) (option_map (λ m. m + 1) (option_or first (empty_line_end (drop (at + 1) bytes))))) (sym none)
    ∙ ap (option_map (λ n. at + n)) (sym (opened bytes at lt))
    ∙ now

pub empty_found : (bytes : List ℕ) (at len : ℕ) (all : Option ℕ) → at < length bytes
    → option_map (λ n. at + n) (empty_line_end (drop at bytes)) ≡ all → begins bytes at ≡ Some len
    → Some (at + 1 + len) ≡ all
empty_found bytes at len all lt now some =
    let e : at + 1 + len ≡ at + (len + 1) = omega arith in
    ap Some e
    ∙ ap (λ first. option_map (λ n. at + n) (option_map (λ m. m + 1) (option_or first (empty_line_end (drop (at + 1) bytes))))) (sym some)
    ∙ ap (option_map (λ n. at + n)) (sym (opened bytes at lt))
    ∙ now

pub begins-other : (bytes : List ℕ) (at : ℕ) → get_or bytes at 0 ≢ 10 → begins bytes at ≡ None
begins-other bytes at other = grind (arith, eqb_tells)

pub begins-lf : (bytes : List ℕ) (at : ℕ) → get_or bytes at 0 ≡ 10 → begins bytes at ≡ line_end_len (drop (at + 1) bytes)
begins-lf bytes at lf = rw lf refl

-- a rest that begins at its own length
pub begins-none : (bytes : List ℕ) (at : ℕ) → get_or bytes at 0 ≡ 10
    → line_end_len (take (length bytes - (at + 1)) (drop (at + 1) bytes)) ≡ None → begins bytes at ≡ None
begins-none bytes at lf none = begins-lf bytes at lf ∙ ap line_end_len (sym (take_rest bytes (at + 1))) ∙ none

pub begins-some : (bytes : List ℕ) (at len : ℕ) → get_or bytes at 0 ≡ 10
    → line_end_len (take (length bytes - (at + 1)) (drop (at + 1) bytes)) ≡ Some len → begins bytes at ≡ Some len
begins-some bytes at len lf some = begins-lf bytes at lf ∙ ap line_end_len (sym (take_rest bytes (at + 1))) ∙ some
