use Rattle.std.proofs.Common.{arith, ◌≡◌}
use Rattle.std.proofs.lemmas.Grind.{text_groups}
use Rattle.file_text.specs.Lengths.{sum_at}
use Rattle.file_text.specs.Written.{all_written}
use Rattle.file_text.proofs.LongItems.{none_less}
use Rattle.file_text.proofs.lengths.Lengths.new.Goals as goal

pub returns : goal.returns
unfolding all_written
returns c = record {
  sums = record { each = λ q. let none : sum_at c.new.result q ≡ 0 = grind (arith, text_groups) in none };
  longest = λ n. none_less n;
}
