use Rattle.std.proofs.Common.{refl}
use Rattle.file_text.proofs.JoinSteps.{none_joined}
use Rattle.file_text.proofs.join.Joining.new.Goals as goal

pub returns : goal.returns
returns c = none_joined _ refl c.new.ensures.bytes c.new-3.ensures.empty c.new-2.ensures.bytes c.new-4.ensures.bytes c.new-5.ensures c.new-6.ensures.bytes refl
