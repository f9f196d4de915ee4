use Rattle.std.proofs.Common.{ap, sym, ◌∙◌}
use Rattle.json.specs.Lex.{tokens}
use Rattle.json.proofs.Printed.Tokens.{tokens-print}
use Rattle.config_digest.specs.Written.{three_tokens, digest_of}
use Rattle.config_digest.proofs.Tells.{printable_three, three_same}
use Rattle.config_digest.proofs.laws.digest_tells.Goals as goal

pub returns : goal.returns
unfolding digest_of
returns c = λ pair a b pair2 a2 b2 apart same.
    three_same pair a b pair2 a2 b2
    (sym (tokens-print (three_tokens pair a b) (printable_three pair a b)) ∙ ap tokens (apart same) ∙ tokens-print (three_tokens pair2 a2 b2) (printable_three pair2 a2 b2))
