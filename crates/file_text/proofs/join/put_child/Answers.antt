use Rattle.std.proofs.Common.{arith, ap, length, string_bytes}
use Rattle.std.proofs.lemmas.List.{length-append}
use Rattle.std.proofs.lemmas.Result.{on_ok_weaker}
use Rattle.file_text.specs.Written.{written}
use Rattle.file_text.proofs.JoinSteps.{child_written}
use Rattle.file_text.proofs.join.put_child.Goals as goal

pub returns : goal.returns
returns c = on_ok_weaker c.add.result (λ told all are. record {
  are = child_written all c.args.child.now (string_bytes c.args.out.now) (string_bytes c.put_part.new.out) are.are c.in_ok-put_part.ensures;
  counted = told all (omega (arith, c.len.ensures, c.len-before.ensures, ap length c.in_ok-put_part.ensures, length-append (string_bytes c.args.out.now) (written c.args.child.now)))
      (omega (arith, c.len.type_inv, c.len.ensures, c.len-before.ensures, ap length c.in_ok-put_part.ensures, length-append (string_bytes c.args.out.now) (written c.args.child.now), ap length are.are)) are.counted;
}) c.add.ensures
