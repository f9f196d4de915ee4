use Rattle.std.proofs.Common.{sym, ◌∙◌, ap}
use Rattle.multistatus.specs.Namespaces.{space_of}
use Rattle.multistatus.proofs.scopes.Declarations.with.Goals as goal

pub invariant_of-result : goal.invariant_of-result
invariant_of-result c = λ q. c.in_ok-by_prefix.ensures c.self.inside.listed c.self.invariant q ∙ ap (space_of q) (sym c.in_ok-push.ensures.ok)
