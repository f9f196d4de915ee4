use Rattle.std.proofs.Common.{◌≡◌, drop, map}
use Rattle.config_digest.specs.Order.{in_order_onto, in_order}
use Rattle.config_digest.proofs.order.in_order.Given as goal

abbrev pub invariant-loop-entry : goal.invariant-loop-entry
invariant-loop-entry l = in_order_onto (map (λ e. e.now) l.sorted.items) (drop l.entry-index l.entries) ≡ in_order l.entries
