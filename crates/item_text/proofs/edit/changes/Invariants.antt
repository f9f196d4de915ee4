use Rattle.std.proofs.Common.{◌≡◌, ◌++◌, false, length}
use Rattle.item_text.specs.Edits.{changes}
use Rattle.item_text.proofs.edit.changes.Given as goal

abbrev pub invariant-loop-role : goal.invariant-loop-role
invariant-loop-role l = l.all.items ++ changes l.seeking l.rest ≡ changes false l.roles

abbrev pub decreases-loop-role : goal.decreases-loop-role
decreases-loop-role l = length l.rest
