-- What stands before the first place of a mark, and the longest front of bytes that pass a test: lemmas on specs/Grammar.antt
use Rattle.std.proofs.Common.{◌≡◌, refl, ℕ, ◌+◌, ◌≤◌, Bool, true, false, cond, List, [], ◌∷◌, length, Option, Some, None, sym, ◌∙◌, ap, subst, arith, append_assoc, length-append}
use Rattle.std.specs.List.{list_all}
use Rattle.std.specs.Option.{option_map, option_or}
use Rattle.multistatus.specs.Texts.{stripped, cut, front, behind}
use Rattle.multistatus.specs.Grammar.{◌·◌, IsBefore}
use Rattle.multistatus.proofs.Cuts.{stripped-mark, stripped_found, none_unless}
use Rattle.multistatus.proofs.Runs.{some_same, both_true}

-- text that is as long as a mark and begins as the mark does begins with all of it
prefix_by : (mark text rest more : List ℕ) → length mark ≤ length text → text · rest ≡ mark · more → (after : List ℕ) × (text ≡ mark · after)
prefix_by [] text rest more short same = (text, refl)
prefix_by (m ∷ mark) [] rest more short same = absurd (omega arith)
prefix_by (m ∷ mark) (b ∷ text) rest more short same =
    let head : b ≡ m = cc in
    let tail : text · rest ≡ mark · more = cc in
    let found = prefix_by mark text rest more (omega arith) tail in
    let whole : text ≡ mark · found.0 = found.1 in
    (found.0, cc)

not_first : (mark : List ℕ) (b : ℕ) (text rest more : List ℕ) → IsBefore mark (b ∷ text) → b ∷ text · mark · rest ≡ mark · more → ⊥
not_first mark b text rest more before same =
    let long : length ((b ∷ text) · mark) ≡ length (b ∷ text) + length mark = length-append (b ∷ text) mark in
    let found = prefix_by mark ((b ∷ text) · mark) rest more (omega (arith, long)) (append_assoc (b ∷ text) mark rest ∙ same) in
    let none : length found.0 ≡ 0 = ap (λ (l : List ℕ). length l) (before [] found.0 found.1) in
    let as_long : length ((b ∷ text) · mark) ≡ length mark + length found.0 = ap (λ (l : List ℕ). length l) found.1 ∙ length-append mark found.0 in
    omega (arith, long, none, as_long)

cut_first : (mark bytes rest : List ℕ) → stripped mark bytes ≡ Some rest → cut mark bytes ≡ Some ([], rest)
unfolding cut
cut_first mark [] rest h = ap (option_map (λ (more : List ℕ). ([], more))) h
cut_first mark (b ∷ bytes) rest h = rw h refl

-- a mark is found where text ends by it
pub cut_before : (mark text rest : List ℕ) → IsBefore mark text → cut mark (text · mark · rest) ≡ Some (text, rest)
unfolding cut
cut_before mark [] rest before = cut_first mark (mark · rest) rest (stripped-mark mark rest)
cut_before mark (b ∷ text) rest before =
    let lacks : stripped mark (b ∷ text · mark · rest) ≡ None =
    none_unless (stripped mark (b ∷ text · mark · rest)) (λ more found. not_first mark b text rest more before (stripped_found mark (b ∷ text · mark · rest) more found)) in
    let later : cut mark (text · mark · rest) ≡ Some (text, rest) = cut_before mark text rest (λ front after same. before (b ∷ front) after (ap (λ l. b ∷ l) same)) in
    rw lacks (rw later refl)

pub nothing_if_none : (bytes : List ℕ) → length bytes ≡ 0 → bytes ≡ []
nothing_if_none [] h = refl
nothing_if_none (b ∷ bytes) h = absurd (omega arith)

pub before_nothing : (mark : List ℕ) → IsBefore mark []
before_nothing mark before after same =
    let whole : length mark ≡ length before + length (mark · after) = ap (λ (l : List ℕ). length l) same ∙ length-append before (mark · after) in
    let back : length (mark · after) ≡ length mark + length after = length-append mark after in
    nothing_if_none after (omega (arith, whole, back))

abbrev Parts : List ℕ → List ℕ → List ℕ × List ℕ → Type 0
Parts mark bytes parts = (bytes ≡ parts.0 · mark · parts.1) × IsBefore mark parts.0

pub tails : (b c : ℕ) (xs ys : List ℕ) → b ∷ xs ≡ c ∷ ys → xs ≡ ys
tails b c xs ys h = cc

before_later : (mark : List ℕ) (b : ℕ) (bytes text rest : List ℕ) → stripped mark (b ∷ bytes) ≡ None → bytes ≡ text · mark · rest → IsBefore mark text → IsBefore mark (b ∷ text)
before_later mark b bytes text rest lacks whole is_before [] after same =
    let there : b ∷ bytes ≡ mark · (after · rest) =
    ap (λ (l : List ℕ). b ∷ l) whole ∙ sym (append_assoc (b ∷ text) mark rest) ∙ ap (λ (l : List ℕ). l · rest) same ∙ append_assoc mark after rest in
    let clash : None ≡ Some (after · rest) = sym lacks ∙ ap (stripped mark) there ∙ stripped-mark mark (after · rest) in
    cc
before_later mark b bytes text rest lacks whole is_before (c ∷ before) after same = is_before before after (tails b c (text · mark) (before · mark · after) same)

found_first : (mark bytes rest : List ℕ) (parts : List ℕ × List ℕ) → stripped mark bytes ≡ Some rest → Some ([], rest) ≡ Some parts → Parts mark bytes parts
found_first mark bytes rest parts there same = subst (Parts mark bytes) (some_same ([], rest) parts same) (stripped_found mark bytes rest there, before_nothing mark)

found_at_end : (mark : List ℕ) (o : Option (List ℕ)) (parts : List ℕ × List ℕ) → stripped mark [] ≡ o → option_map (λ (rest : List ℕ). ([], rest)) o ≡ Some parts → Parts mark [] parts
found_at_end mark None parts there h = cc
found_at_end mark (Some rest) parts there h = found_first mark [] rest parts there h

abbrev with_first : ℕ → List ℕ × List ℕ → List ℕ × List ℕ
with_first b parts = (b ∷ parts.0, parts.1)

found_later : (mark : List ℕ) (b : ℕ) (bytes : List ℕ) (o : Option (List ℕ)) (later : Option (List ℕ × List ℕ)) (parts : List ℕ × List ℕ) → stripped mark (b ∷ bytes) ≡ o
    → ((more : List ℕ × List ℕ) → later ≡ Some more → Parts mark bytes more)
    → option_or (option_map (λ (rest : List ℕ). ([], rest)) o) (option_map (with_first b) later) ≡ Some parts → Parts mark (b ∷ bytes) parts
found_later mark b bytes (Some rest) later parts there more h = found_first mark (b ∷ bytes) rest parts there h
found_later mark b bytes None None parts there more h = cc
found_later mark b bytes None (Some found) parts there more h =
    let split = more found refl in
    subst (Parts mark (b ∷ bytes)) (some_same (with_first b found) parts h)
    (ap (λ (l : List ℕ). b ∷ l) split.0, before_later mark b bytes found.0 found.1 there split.0 split.1)

-- what stands before the place that is found ends by the mark
pub cut_found : (mark bytes : List ℕ) (parts : List ℕ × List ℕ) → cut mark bytes ≡ Some parts → (bytes ≡ parts.0 · mark · parts.1) × IsBefore mark parts.0
unfolding cut
cut_found mark [] parts h = found_at_end mark (stripped mark []) parts refl h
cut_found mark (b ∷ bytes) parts h = found_later mark b bytes (stripped mark (b ∷ bytes)) (cut mark bytes) parts refl (cut_found mark bytes) h

-- no byte that passes stands first
abbrev pub Stops : (ℕ → Bool) → List ℕ → Type 0
Stops p [] = Unit {0}
Stops p (b ∷ bytes) = p b ≡ false

-- all that passes is the longest front
pub front_of : (p : ℕ → Bool) (part rest : List ℕ) → list_all p part ≡ true → Stops p rest → (front p (part · rest) ≡ part) × (behind p (part · rest) ≡ rest)
front_of p [] [] all stops = (refl, refl)
front_of p [] (b ∷ rest) all stops = (rw stops refl, rw stops refl)
front_of p (b ∷ part) rest all stops =
    let both = both_true (p b) (list_all p part) all in
    let more = front_of p part rest both.1 stops in
    (rw both.0 (ap (λ (l : List ℕ). b ∷ l) more.0), rw both.0 more.1)

-- what passes, and what follows
pub record Splits (p : ℕ → Bool) (bytes part rest : List ℕ) : Type 0 where
  pub whole : bytes ≡ part · rest
  pub all : list_all p part ≡ true
  pub stops : Stops p rest

pub split_of : (p : ℕ → Bool) (bytes : List ℕ) → Splits p bytes (front p bytes) (behind p bytes)
split_of p [] = record { whole = refl; all = refl; stops = tt }
split_of p (b ∷ bytes) = by_test p b bytes (p b) refl (split_of p bytes)
  where
    by_test : (p : ℕ → Bool) (b : ℕ) (bytes : List ℕ) (t : Bool) → p b ≡ t → Splits p bytes (front p bytes) (behind p bytes)
        → Splits p (b ∷ bytes) (cond t (b ∷ front p bytes) []) (cond t (behind p bytes) (b ∷ bytes))
    by_test p b bytes true e more = record { whole = ap (λ (l : List ℕ). b ∷ l) more.whole; all = rw e more.all; stops = more.stops }
    by_test p b bytes false e more = record { whole = refl; all = refl; stops = e }
