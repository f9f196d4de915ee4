use Rattle.multistatus.proofs.AllTokens.{token_unique}
use Rattle.multistatus.proofs.laws.tokens_are_unique.Goals as goal

pub returns : goal.returns
returns c = λ bytes rest other_rest one other x y. token_unique one other bytes rest other_rest x y
