use Rattle.std.proofs.Common.{arith}
use Rattle.std.proofs.lemmas.Grind.{text_groups}
use Rattle.file_text.proofs.children.add.Goals as goal

pub returns : goal.returns
returns c = λ lines q. grind (arith, text_groups)
