use Rattle.std.proofs.Common.{arith}
use Rattle.std.proofs.lemmas.Grind.{text_groups}
use Rattle.file_text.proofs.lengths.add_to.Goals as goal

pub returns-clause-sums : goal.returns-clause-sums
returns-clause-sums c = λ q below. grind (arith, text_groups)
