use Rattle.std.proofs.Common.{◌≡◌, ◌∷◌, [], ℕ, Bor, List, Option, Some, None, ap, ◌∙◌}
use Rattle.std.specs.Prelude.{position}
use Rattle.config_ini.specs.declared.setting.Entry.{Entry}
use Rattle.config_digest.specs.Order.{is_before, placed_at, placed}
use Rattle.config_digest.proofs.Seen.{seen, append_seen, insert_seen, position_seen}
use Rattle.config_digest.proofs.order.with_entry.Goals as goal

place_is : (e : Entry) (items slice : List (Bor Entry)) (o : Option ℕ) → o ≡ position (λ x. is_before e x.now) slice → slice ≡ items → placed_at o e (seen items) ≡ placed e (seen items)
place_is e items slice o is same =
    ap (λ (p : Option ℕ). placed_at p e (seen items)) (is ∙ ap (position (λ (x : Bor Entry). is_before e x.now)) same ∙ position_seen (is_before e) items)

pub returns-in_ok-insert-in-Some : goal.returns-in_ok-insert-in-Some
returns-in_ok-insert-in-Some c =
    ap (λ (xs : List (Bor Entry)). seen xs) c.in_ok-insert-in-Some.ensures.items
    ∙ insert_seen c.args.sorted.items c.in-Some.at c.args.entry
    ∙ place_is c.args.entry.now c.args.sorted.items c.as_slice.result.now (Some c.in-Some.at) c.in-Some.ensures.first c.as_slice.ensures.value

pub returns-in_ok-push-in-None : goal.returns-in_ok-push-in-None
returns-in_ok-push-in-None c =
    ap (λ (xs : List (Bor Entry)). seen xs) c.in_ok-push-in-None.ensures.items
    ∙ append_seen c.args.sorted.items (c.args.entry ∷ [])
    ∙ place_is c.args.entry.now c.args.sorted.items c.as_slice.result.now None c.in-None.ensures.first c.as_slice.ensures.value
