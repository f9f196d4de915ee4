use Rattle.std.proofs.Common.{Some, ap, ◌∙◌}
use Rattle.std.specs.String.{string_bytes}
use Rattle.std.proofs.lemmas.Result.{IfOk-weaker, on_ok_weaker}
use Rattle.file_text.proofs.LongItems.{sums_named, sum_named, sums_none, sum_none}
use Rattle.file_text.proofs.lengths.sum_with.Goals as goal

pub returns-in_ok-uid-in-Some-clause-sum : goal.returns-in_ok-uid-in-Some-clause-sum
returns-in_ok-uid-in-Some-clause-sum c =
    IfOk-weaker c.add_to.result _ _ (λ sum told all is fits are. sum_named c.args.by_uid.now c.args.child.now (string_bytes c.in_ok-uid-in-Some.uid) c.args.count (ap Some c.in_ok-uid-in-Some.ensures.ok ∙ c.in-Some.ensures) all is fits are sum told) c.add_to.ensures.sum

pub returns-in_ok-uid-in-Some-clause-sums : goal.returns-in_ok-uid-in-Some-clause-sums
returns-in_ok-uid-in-Some-clause-sums c =
    on_ok_weaker c.add_to.result (λ sums all is fits are. sums_named c.args.by_uid.now c.args.child.now (string_bytes c.in_ok-uid-in-Some.uid) c.args.count (ap Some c.in_ok-uid-in-Some.ensures.ok ∙ c.in-Some.ensures) all is fits are c.add_to.new.by_uid sums) c.add_to.ensures.sums

pub returns-in-None-clause-sum : goal.returns-in-None-clause-sum
returns-in-None-clause-sum c = λ all is fits are. sum_none c.args.by_uid.now c.args.child.now c.in-None.ensures all c.args.count is

pub returns-in-None-clause-sums : goal.returns-in-None-clause-sums
returns-in-None-clause-sums c = λ all is fits are. sums_none c.args.by_uid.now c.args.child.now c.in-None.ensures all are
