use Rattle.std.proofs.Common.{◌≡◌, ◌≢◌, ◌==◌, ℕ, Bor, Bool, true, false, cond, List, [], ◌∷◌, Option, Some, None, refl, sym, ap, ◌∙◌, arith}
use Rattle.std.specs.Prelude.{MatchOption}
use Rattle.std.specs.Option.{option_copied}
use Rattle.std.proofs.lemmas.Bool.Decides.{nat_tests}
use Rattle.std.proofs.lemmas.Str.Pattern.{strip_prefix_char}
use Rattle.dav_requests.specs.Paths.{behind}
use Rattle.dav_requests.proofs.paths.behind.Goals as goal

same : (b c : ℕ) → b ≡ c → (b == c) ≡ true
same b c h = grind (arith, nat_tests)

equal : (b c : ℕ) → (b == c) ≡ true → b ≡ c
equal b c h = grind (arith, nat_tests)

none_by : (c b : ℕ) (rest : List ℕ) (t : Bool) → (b == c) ≡ t → ((tail : List ℕ) → b ∷ rest ≢ c ∷ tail) → None ≡ cond t (Some rest) None
none_by c b rest true e h = absurd (h rest (ap (λ (x : ℕ). x ∷ rest) (equal b c e)))
none_by c b rest false e h = refl

behind_none : (c : ℕ) (bs : List ℕ) → ((tail : List ℕ) → bs ≢ c ∷ tail) → None ≡ behind c bs
behind_none c [] h = refl
behind_none c (b ∷ rest) h = none_by c b rest (b == c) refl h

behind_is : (c : ℕ) (bs : List ℕ) (r : Option (Bor (List ℕ))) → MatchOption r ((rest : List ℕ) → bs ≢ c ∷ rest) (λ x. bs ≡ c ∷ x.now) → option_copied r ≡ behind c bs
behind_is c bs None h = behind_none c bs h
behind_is c bs (Some x) h = ap (λ (t : Bool). cond t (Some x.now) None) (sym (same c c refl)) ∙ ap (behind c) (sym h)

pub returns : goal.returns
returns c = behind_is c.args.mark c.args.text.now c.strip_prefix.result (strip_prefix_char c.args.mark c.args.text.now c.strip_prefix.result c.strip_prefix.ensures.cases c.requires)
