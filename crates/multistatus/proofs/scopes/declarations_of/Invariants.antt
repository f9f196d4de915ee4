use Rattle.std.proofs.Common.{◌≡◌, take}
use Rattle.multistatus.specs.Namespaces.{declarations_of}
use Rattle.multistatus.proofs.scopes.declarations_of.Given as goal

abbrev pub invariant-loop-attribute : goal.invariant-loop-attribute
invariant-loop-attribute l = l.declared ≡ declarations_of (take l.attribute-index l.attributes)
