use Rattle.child_cmd.proofs.FetchLemmas.{asked}
use Rattle.child_cmd.proofs.asking.read_answer.Goals as goal

pub returns-clause-told : goal.returns-clause-told
returns-clause-told g c = λ tells.
    let now = c.read_line-line.ensures.told tells in
    (now.0, asked _ _ c.read_line-line.result c.line_value.result now.1 c.line_value.ensures)
