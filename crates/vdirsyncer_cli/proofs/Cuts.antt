-- A text, cut around its last slash.
use Rattle.std.proofs.Common.{◌≡◌, ◌≢◌, ℕ, ◌+◌, ◌-◌, ◌<◌, ◌≤◌, length, get_or, take, drop, true, false, not, ◌==◌, List, Some, ◌∙◌, ap, subst, arith, lit<}
use Rattle.std.specs.List.{list_any, before_last, after_last, suffix_len}
use Rattle.std.specs.Str.{NoCharPasses}
use Rattle.std.specs.Str.Pattern.{RFindsChar}
use Rattle.std.proofs.lemmas.Bool.{ne_eqb, eq-eqb}
use Rattle.std.proofs.lemmas.Str.Pattern.{NoCharPasses-char}
use Rattle.std.proofs.lemmas.List.Sums.{suffix_len_is}
use Rattle.std.proofs.lemmas.List.Folds.{list_any_at, list_any_none}
use Rattle.std.proofs.lemmas.List.{get_or-drop, get_or_default, length-drop}
use Rattle.vdirsyncer_cli.specs.Files.{is_slash}

no_slash_behind : (bs : List ℕ) (j : ℕ) → NoCharPasses (λ d. d == 47) (drop j bs) → (k : ℕ) → j ≤ k → k < length bs → get_or bs k 0 ≢ 47
no_slash_behind bs j h k le lt =
    let far : k - j < length (drop j bs) = omega (arith, length-drop j bs) in
    let same : j + (k - j) ≡ k = omega arith in
    subst (λ (n : ℕ). get_or bs n 0 ≢ 47) same
    (subst (λ (b : ℕ). b ≢ 47) (get_or-drop j bs (k - j) 0) (NoCharPasses-char 47 (drop j bs) (k - j) h (lit< tt) far))

pub cut_some : (bs front back : List ℕ) (i j : ℕ) → RFindsChar 47 bs (Some (i, j)) → front ≡ take i bs → back ≡ drop j bs → length back + j ≡ length bs
    → (list_any is_slash bs ≡ true) × (front ≡ before_last is_slash bs) × (back ≡ after_last is_slash bs)
cut_some bs front back i j found is_front is_back len =
    let ends : j ≡ i + 1 = found.1.ends in
    let byte : get_or bs i 0 ≡ 47 = found.1.byte (lit< tt) in
    let within : i < length bs = omega arith in
    let before : j - 1 ≡ i = omega arith in
    let suffix : suffix_len (λ (x : ℕ). not (is_slash x)) bs ≡ length bs - j =
    suffix_len_is (λ (x : ℕ). not (is_slash x)) bs j 0 (omega arith)
    (λ k le lt. ap not (ne_eqb (get_or bs k 0) 47 (no_slash_behind bs j found.0 k le lt)))
    (λ _. ap not (eq-eqb (get_or bs (j - 1) 0) 47 (ap (λ (n : ℕ). get_or bs n 0) before ∙ byte))) in
    let at : i ≡ length bs - suffix_len (λ (x : ℕ). not (is_slash x)) bs - 1 = omega (arith, suffix) in
    let behind : j ≡ length bs - suffix_len (λ (x : ℕ). not (is_slash x)) bs = omega (arith, suffix) in (
      list_any_at is_slash bs i 0 within (eq-eqb (get_or bs i 0) 47 byte),
      is_front ∙ ap (λ (n : ℕ). take n bs) at,
      is_back ∙ ap (λ (n : ℕ). drop n bs) behind,
    )

pub cut_none : (bs : List ℕ) → NoCharPasses (λ d. d == 47) bs → (list_any is_slash bs ≡ false) × (after_last is_slash bs ≡ bs)
cut_none bs h =
    let none : (k : ℕ) → k < length bs → get_or bs k 0 ≢ 47 = λ k lt. NoCharPasses-char 47 bs k h (lit< tt) lt in
    let suffix : suffix_len (λ (x : ℕ). not (is_slash x)) bs ≡ length bs - 0 =
    suffix_len_is (λ (x : ℕ). not (is_slash x)) bs 0 0 (omega arith)
    (λ k le lt. ap not (ne_eqb (get_or bs k 0) 47 (none k lt)))
    (λ lt. absurd (omega arith)) in
    let all : length bs - suffix_len (λ (x : ℕ). not (is_slash x)) bs ≡ 0 = omega (arith, suffix) in (
      list_any_none is_slash bs (λ k d lt. ap is_slash (get_or_default bs k d 0 lt) ∙ ne_eqb (get_or bs k 0) 47 (none k lt)),
      ap (λ (n : ℕ). drop n bs) all,
    )
