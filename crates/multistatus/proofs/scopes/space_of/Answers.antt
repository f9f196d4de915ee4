use Rattle.std.proofs.Common.{reverse, ◌∙◌}
use Rattle.multistatus.specs.Reader.{scope_of}
use Rattle.multistatus.proofs.Scoping.{found_inside, found_outside}
use Rattle.multistatus.proofs.scopes.space_of.Goals as goal

pub returns-in-Some : goal.returns-in-Some
returns-in-Some c = found_inside c.args.prefix.now c.args.declared.now (scope_of (reverse c.args.levels.now)) c.in-Some.space c.in-Some.ensures

pub returns : goal.returns
returns c = c.space_around.ensures ∙ found_outside c.args.prefix.now c.args.declared.now (scope_of (reverse c.args.levels.now)) c.in_default.ensures
