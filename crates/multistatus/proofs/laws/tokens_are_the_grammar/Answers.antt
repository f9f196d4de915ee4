use Rattle.multistatus.proofs.AllTokens.{token_found, token_told}
use Rattle.multistatus.proofs.laws.tokens_are_the_grammar.Goals as goal

pub returns-clause-found : goal.returns-clause-found
returns-clause-found c = λ bytes rest token is. token_found token bytes rest is

pub returns-clause-is_token : goal.returns-clause-is_token
returns-clause-is_token c = λ bytes rest token some h. token_told bytes (token, rest) some h
