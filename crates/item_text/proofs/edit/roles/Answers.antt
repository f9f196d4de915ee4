use Rattle.std.proofs.Common.{arith}
use Rattle.item_text.proofs.RoleSteps.{met_first, kind_met, fits_met, met_next, met_all}
use Rattle.item_text.proofs.edit.roles.Goals as goal

pub loop-all-init : goal.loop-all-init
loop-all-init c = (c.new-stack.ensures.counted, met_first _ _ _ c.new-stack.ensures.place c.new-all.ensures.items c.requires.fine, omega arith)

pub go-requires-clause-fits : goal.go-requires-clause-fits
go-requires-clause-fits c = (_, fits_met c.loop-all.invariant.1 (rw c.in-Some.is at c.in_ok-line.ensures.line) (kind_met _ _ _ c.trimmed.ensures c.kind_of-kind.ensures))

pub loop-all-preserved : goal.loop-all-preserved
loop-all-preserved c = (
  c.in_ok-go.ensures.counted,
  met_next c.loop-all.invariant.1 (rw c.in-Some.is at c.in_ok-line.ensures.line) (kind_met _ _ _ c.trimmed.ensures c.kind_of-kind.ensures) c.role_of.ensures c.in_ok-go.ensures.place c.in_ok-push.ensures.items,
  omega (arith, c.in_ok-line.ensures.size, c.loop-all.invariant.2),
)

pub returns : goal.returns
returns c = met_all (rw c.in_default.is at c.in_ok-line.ensures.line) c.loop-all.invariant.1
