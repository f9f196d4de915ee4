-- What stands before and behind a mark: lemmas on specs/Texts.antt
use Rattle.std.proofs.Common.{◌≡◌, refl, ℕ, ◌<◌, ◌≤◌, zero, suc, Bool, true, false, cond, eqb, List, [], ◌∷◌, ◌++◌, length, take, drop, Option, Some, None, Bor, sym, ◌∙◌, ap, arith, eq-eqb}
use Rattle.std.specs.Option.{MatchOption, option_map, option_copied}
use Rattle.std.specs.Str.Pattern.{FindsText, FindsTextPrefix, LacksTextAt, SplitsAroundMatch, StripsPrefix}
use borrow.Author.Tests.{eqb-true}
use Rattle.multistatus.specs.Texts.{stripped, cut}

pub stripped-mark : (mark rest : List ℕ) → stripped mark (mark ++ rest) ≡ Some rest
unfolding stripped
stripped-mark [] rest = refl
stripped-mark (m ∷ mark) rest = rw (eq-eqb m m refl) (stripped-mark mark rest)

chosen_some : {A : Type 0} (b : Bool) (o : Option A) (x : A) → cond b o None ≡ Some x → (b ≡ true) × (o ≡ Some x)
chosen_some true o x h = (refl, h)
chosen_some false o x h = cc

pub stripped_found : (mark bytes rest : List ℕ) → stripped mark bytes ≡ Some rest → bytes ≡ mark ++ rest
unfolding stripped
stripped_found [] bytes rest h = cc
stripped_found (m ∷ mark) [] rest h = cc
stripped_found (m ∷ mark) (b ∷ bytes) rest h =
    let both = chosen_some (eqb b m) (stripped mark bytes) rest h in
    let same : b ≡ m = eqb-true b m both.0 in
    let more : bytes ≡ mark ++ rest = stripped_found mark bytes rest both.1 in
    cc

pub none_unless : {A : Type 0} (o : Option A) → ((x : A) → o ≡ Some x → ⊥) → o ≡ None
none_unless None h = refl
none_unless (Some x) h = absurd (h x refl)

pub stripped_lacks : (mark bytes : List ℕ) → LacksTextAt mark bytes 0 → stripped mark bytes ≡ None
stripped_lacks mark bytes lacks = none_unless (stripped mark bytes) (λ rest h. lacks rest (stripped_found mark bytes rest h))

pub stripped_by : (mark bytes : List ℕ) (r : Option (Bor (List ℕ)))
    → MatchOption r (FindsTextPrefix mark bytes None) (λ x. StripsPrefix (FindsTextPrefix mark) bytes x.now)
    → option_copied r ≡ stripped mark bytes
stripped_by mark bytes None h = sym (stripped_lacks mark bytes h)
stripped_by mark bytes (Some x) h =
    let n = h.0 in
    let whole : bytes ≡ mark ++ drop n bytes = h.1.1 in
    let there : stripped mark bytes ≡ Some (drop n bytes) = ap (stripped mark) whole ∙ stripped-mark mark (drop n bytes) in
    ap Some h.2 ∙ sym there

pub cut_lacks : (mark bytes : List ℕ) → ((i : ℕ) → i ≤ length bytes → LacksTextAt mark bytes i) → cut mark bytes ≡ None
unfolding cut
cut_lacks mark [] lacks = ap (option_map (λ (rest : List ℕ). ([], rest))) (stripped_lacks mark [] (lacks 0 (omega arith)))
cut_lacks mark (b ∷ bytes) lacks =
    rw (stripped_lacks mark (b ∷ bytes) (lacks 0 (omega arith))) (rw (cut_lacks mark bytes (λ i h. lacks (suc i) (omega arith))) refl)

pub cut_at : (mark bytes rest : List ℕ) (i : ℕ) → ((k : ℕ) → k < i → LacksTextAt mark bytes k) → i ≤ length bytes
    → drop i bytes ≡ mark ++ rest → cut mark bytes ≡ Some (take i bytes, rest)
unfolding cut
cut_at mark [] rest zero lacks within there =
    ap (option_map (λ (rest : List ℕ). ([], rest))) (ap (stripped mark) there ∙ stripped-mark mark rest)
cut_at mark [] rest (suc i) lacks within there = absurd (omega arith)
cut_at mark (b ∷ bytes) rest zero lacks within there =
    let found : stripped mark (b ∷ bytes) ≡ Some rest = ap (stripped mark) there ∙ stripped-mark mark rest in
    rw found refl
cut_at mark (b ∷ bytes) rest (suc i) lacks within there =
    let more : cut mark bytes ≡ Some (take i bytes, rest) = cut_at mark bytes rest i (λ k h. lacks (suc k) (omega arith)) (omega arith) there in
    rw (stripped_lacks mark (b ∷ bytes) (lacks 0 (omega arith))) (rw more refl)

pub cut_by : (mark bytes : List ℕ) (r : Option (Bor (List ℕ) × Bor (List ℕ)))
    → MatchOption r (FindsText mark bytes None) (λ x. SplitsAroundMatch (FindsText mark) bytes x.0.now x.1.now)
    → option_map (λ (parts : Bor (List ℕ) × Bor (List ℕ)). (parts.0.now, parts.1.now)) r ≡ cut mark bytes
cut_by mark bytes None h = sym (cut_lacks mark bytes h)
cut_by mark bytes (Some x) h =
    let i = h.0 in
    let j = h.1 in
    let found = h.2 in
    let within : i ≤ length bytes = omega (arith, h.5, h.6, h.7) in
    let there : cut mark bytes ≡ Some (take i bytes, drop j bytes) = cut_at mark bytes (drop j bytes) i found.0 within found.1.split in
    ap Some (ap (λ front. (front, x.1.now)) h.3 ∙ ap (λ back. (take i bytes, back)) h.4) ∙ sym there
