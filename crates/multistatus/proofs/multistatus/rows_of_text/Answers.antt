use Rattle.std.proofs.Common.{ℕ, List, ◌∙◌, ap, sym, subst}
use Rattle.multistatus.specs.Steps.{Fails}
use Rattle.multistatus.specs.Tokens.{without_declaration}
use Rattle.multistatus.proofs.Readings.{answer_from_body, no_body}
use Rattle.multistatus.proofs.multistatus.rows_of_text.Goals as goal

pub returns-in-Ok : goal.returns-in-Ok
returns-in-Ok c =
    answer_from_body c.args.text.now c.in-Ok.body.now c.rows_of_body.result c.utf8.text (ap without_declaration (sym c.without_mark.ensures) ∙ c.in-Ok.ensures) c.rows_of_body.ensures

pub returns-in-Err : goal.returns-in-Err
returns-in-Err c = no_body c.args.text.now c.in-Err.error (subst (λ (l : List ℕ). Fails c.in-Err.error (without_declaration l)) c.without_mark.ensures c.in-Err.ensures)
