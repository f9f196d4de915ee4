use Rattle.std.proofs.Common.{◌∙◌}
use Rattle.file_text.proofs.LongItems.{longest_more}
use Rattle.file_text.proofs.lengths.Lengths.add.Goals as goal

pub returns : goal.returns
returns c = λ all is fits are. record {
  sums = c.in_ok-sum.ensures.sums all is fits are.sums;
  longest = λ n. c.greater-self.ensures n ∙ longest_more n _ all c.args.child.now (c.in_ok-sum.ensures.sum all is fits are.sums) c.args.self.now.longest (are.longest n);
}
