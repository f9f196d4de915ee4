use Rattle.item_text.proofs.Order.{in_order-from_sort}
use Rattle.item_text.proofs.normal.put_in_order.Goals as goal

pub returns : goal.returns
returns c = in_order-from_sort _ _ c.sort_unstable.ensures.permutation c.sort_unstable.ensures.sorted
