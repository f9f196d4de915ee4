use Rattle.std.proofs.Common.{◌≡◌, ◌++◌, ◌∷◌, [], List, append_assoc, ap, ◌∙◌}
use Rattle.json.specs.Token.{Token, begin_array, end_array}
use Rattle.config_digest.specs.Written.{section_tokens, three_tokens}
use Rattle.config_digest.proofs.digest.write_three.Goals as goal

three : (w w1 w2 w3 w4 w5 p a b : List Token) → w1 ≡ w ++ begin_array ∷ [] → w2 ≡ w1 ++ p → w3 ≡ w2 ++ a → w4 ≡ w3 ++ b → w5 ≡ w4 ++ end_array ∷ []
    → w5 ≡ w ++ (begin_array ∷ (p ++ (a ++ (b ++ end_array ∷ []))))
three w w1 w2 w3 w4 w5 p a b e1 e2 e3 e4 e5 =
    e5 ∙ ap (λ (l : List Token). l ++ end_array ∷ []) (e4 ∙ ap (λ (l : List Token). l ++ b) (e3 ∙ ap (λ (l : List Token). l ++ a) (e2 ∙ ap (λ (l : List Token). l ++ p) e1)))
    ∙ simp append_assoc

pub returns-clause-tokens : goal.returns-clause-tokens
unfolding three_tokens
returns-clause-tokens c =
    three c.args.writer.now.tokens c.begin_array.new.self.tokens c.write_section.new.writer.tokens c.write_section-2.new.writer.tokens c.write_section-3.new.writer.tokens c.end_array.new.self.tokens
    (section_tokens c.args.pair.now) (section_tokens c.args.a.now) (section_tokens c.args.b.now)
    c.in_ok-begin_array.ensures.ok c.in_ok-write_section.ensures.tokens c.in_ok-write_section-2.ensures.tokens c.in_ok-write_section-3.ensures.tokens c.in_ok-end_array.ensures.ok
