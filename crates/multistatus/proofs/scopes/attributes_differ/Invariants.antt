use Rattle.std.proofs.Common.{drop}
use Rattle.multistatus.specs.Reader.{scope_in}
use Rattle.multistatus.specs.Scopes.{differing}
use Rattle.multistatus.proofs.Differing.{DiffersOn}
use Rattle.multistatus.proofs.scopes.attributes_differ.Given as goal

abbrev pub invariant-loop-attribute : goal.invariant-loop-attribute
invariant-loop-attribute l = DiffersOn (scope_in l.fn.declared l.fn.levels) l.seen.keys (drop l.attribute-index l.attributes) (differing (scope_in l.fn.declared l.fn.levels) l.attributes)
