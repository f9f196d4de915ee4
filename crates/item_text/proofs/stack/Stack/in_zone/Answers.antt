use Rattle.std.proofs.Common.{ℕ, ap, ◌∙◌, nat_lt}
use Rattle.item_text.proofs.Stacks.{names, zones_told}
use Rattle.item_text.proofs.stack.Stack.in_zone.Goals as goal

pub returns : goal.returns
returns c = ap (λ (n : ℕ). nat_lt 0 n) c.requires ∙ zones_told (names c.args.self.now.names.items)
