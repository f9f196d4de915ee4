use Rattle.std.proofs.Common.{◌≡◌, ℕ, ◌+◌, ◌<◌, ◌≤◌, suc, List, [], ◌∷◌, length, drop, get_or, refl, sym, ◌∙◌, ap, add-one, drop-cons, arith}
use Rattle.std.proofs.Math.ListN.{drop_of_length-le}
use Rattle.config_ini.specs.declared.setting.Entry.{Entry}
use Rattle.config_digest.specs.Order.{placed, in_order_onto, in_order}
use Rattle.config_digest.proofs.Seen.{seen}
use Rattle.config_digest.proofs.order.in_order.Goals as goal

next_is : (sorted : List Entry) (e : Entry) (rest : List Entry) → in_order_onto sorted (e ∷ rest) ≡ in_order_onto (placed e sorted) rest
unfolding in_order_onto
next_is sorted e rest = refl

end_is : (sorted : List Entry) → in_order_onto sorted [] ≡ sorted
unfolding in_order_onto
end_is sorted = refl

entry_next : (sorted next entries : List Entry) (i : ℕ) (e : Entry) → i < length entries → e ≡ get_or entries i e → next ≡ placed e sorted
    → in_order_onto sorted (drop i entries) ≡ in_order entries → in_order_onto next (drop (i + 1) entries) ≡ in_order entries
entry_next sorted next entries i e within at is on =
    ap (λ (s : List Entry). in_order_onto s (drop (i + 1) entries)) is
    ∙ sym (next_is sorted e (drop (i + 1) entries))
    ∙ ap (in_order_onto sorted) (sym (drop-cons entries i e within ∙ ap (λ (x : Entry). x ∷ drop (suc i) entries) (sym at) ∙ ap (λ k. e ∷ drop k entries) (sym (add-one i))))
    ∙ on

pub loop-entry-preserved : goal.loop-entry-preserved
loop-entry-preserved c =
    entry_next (seen c.loop-entry.sorted.items) (seen c.in_ok-sorted.sorted.items) c.args.entries.now c.loop-entry.entry-index c.entry-item.result c.loop-entry-test.true c.entry-item.is c.in_ok-sorted.ensures c.loop-entry.invariant

pub returns : goal.returns
returns c =
    let over : length c.args.entries.now ≤ c.loop-entry.entry-index = omega arith in
    sym (end_is (seen c.loop-entry.sorted.items))
    ∙ ap (in_order_onto (seen c.loop-entry.sorted.items)) (sym (drop_of_length-le c.args.entries.now over))
    ∙ c.loop-entry.invariant
