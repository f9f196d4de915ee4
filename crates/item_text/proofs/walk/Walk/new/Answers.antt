use Rattle.std.proofs.Common.{map, ap, List, ℕ, Bor}
use Rattle.item_text.proofs.Steps.{start_is}
use Rattle.item_text.proofs.walk.Walk.new.Goals as goal

pub returns-clause-starts : goal.returns-clause-starts
returns-clause-starts c = λ all. start_is _ _ _ all c.new.ensures.place c.new-2.ensures (ap (map (λ (x : Bor (List ℕ)). x.now)) c.new-3.ensures.items)
