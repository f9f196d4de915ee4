use Rattle.std.proofs.Common.{arith, ap, length, string_bytes}
use Rattle.std.proofs.lemmas.List.{length-append}
use Rattle.file_text.specs.Written.{written}
use Rattle.file_text.proofs.JoinSteps.{other_added}
use Rattle.file_text.proofs.join.Joining.add_other.Goals as goal

pub returns : goal.returns
returns c = λ items is. other_added items c.args.lines.now c.args.self.now c.put_part.new.out _ _ c.requires is c.in_ok-put_part.ensures
    (omega (arith, c.len.ensures, c.len-before.ensures, ap length c.in_ok-put_part.ensures, length-append (string_bytes c.args.self.now.others) (written c.args.lines.now))) c.greater-self.ensures
