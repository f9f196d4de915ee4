use Rattle.std.proofs.Common.{◌≡◌, drop}
use Rattle.item_text.specs.Edits.{gives_uid}
use Rattle.item_text.proofs.edit.gives_uid.Given as goal

abbrev pub invariant-loop-role : goal.invariant-loop-role
invariant-loop-role l = gives_uid (drop l.role-index l.roles) ≡ gives_uid l.roles
