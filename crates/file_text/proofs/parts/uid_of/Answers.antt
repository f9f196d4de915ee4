use Rattle.file_text.proofs.Cutting.{uid_found, uid_later, no_uid}
use Rattle.file_text.proofs.parts.uid_of.Goals as goal

pub returns-in-Some : goal.returns-in-Some
returns-in-Some c = uid_found c.args.child.now c.loop-line.line-index c.line-item.result _ c.loop-line-test.true c.line-item.is c.in-Some.ensures c.loop-line.invariant

pub loop-line-preserved : goal.loop-line-preserved
loop-line-preserved c = uid_later c.args.child.now c.loop-line.line-index c.line-item.result c.loop-line-test.true c.line-item.is c.in_default.ensures c.loop-line.invariant

pub returns : goal.returns
returns c = no_uid c.args.child.now c.loop-line.line-index c.loop-line-test.false c.loop-line.invariant
