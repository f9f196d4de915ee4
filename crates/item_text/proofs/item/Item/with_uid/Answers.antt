use Rattle.std.proofs.Common.{◌∙◌, ap, refl, ℕ, List, length, arith}
use Rattle.std.proofs.lemmas.Str.{IsUtf8-string_bytes}
use Rattle.std.specs.List.{filter_map}
use Rattle.item_text.specs.Lines.{logical_lines}
use Rattle.item_text.specs.Components.{placed}
use Rattle.item_text.specs.Refusals.{fault_of}
use Rattle.item_text.specs.Items.{ItemValue}
use Rattle.item_text.specs.Edits.{with_uid}
use Rattle.item_text.proofs.Edited.{is_item, fine_item, edited_taken}
use Rattle.item_text.proofs.Neighbours.{with_uid_is, too_long}
use Rattle.item_text.proofs.item.Item.with_uid.Goals as goal

pub with_uid-requires-clause-short : goal.with_uid-requires-clause-short
with_uid-requires-clause-short c = omega (arith, ap length c.as_str.ensures, (is_item _ _ c.self.invariant).short)

pub with_uid-requires-clause-fine : goal.with_uid-requires-clause-fine
with_uid-requires-clause-fine c = ap (λ (t : List ℕ). filter_map fault_of (placed (logical_lines t))) c.as_str.ensures ∙ fine_item _ _ c.self.invariant

pub invariant_of-result : goal.invariant_of-result
invariant_of-result c =
    (edited_taken _ _ _ _ _ _ _ c.self.invariant c.requires c.as_str.ensures c.in-Ok.ensures c.of.ensures c.in-Ok-copy_of.ensures (omega (arith, c.len.ensures, c.if-len-gt-MAX_ITEM.false)) (IsUtf8-string_bytes c.in-Ok.edited)).1

pub returns-then-len-gt-MAX_ITEM-clause-refused : goal.returns-then-len-gt-MAX_ITEM-clause-refused
returns-then-len-gt-MAX_ITEM-clause-refused c = too_long c.args.self.now c.args.uid.now _ _ (c.in-Ok.ensures ∙ (ap (λ (t : List ℕ). with_uid t c.args.uid.now) c.as_str.ensures ∙ ap (λ (item : ItemValue). with_uid item.text c.args.uid.now) c.self.view_is)) (omega (arith, c.len.ensures, c.if-len-gt-MAX_ITEM.true)) refl

pub returns-clause-item : goal.returns-clause-item
returns-clause-item c =
    let told =
    edited_taken _ _ _ _ _ _ _ c.self.invariant c.requires c.as_str.ensures c.in-Ok.ensures c.of.ensures c.in-Ok-copy_of.ensures (omega (arith, c.len.ensures, c.if-len-gt-MAX_ITEM.false))
    (IsUtf8-string_bytes c.in-Ok.edited) in
    with_uid_is c.args.self.now _ c.args.uid.now (told.0 ∙ ap (λ (item : ItemValue). with_uid item.text c.args.uid.now) c.self.view_is) c.in-Ok-copy_of.ensures refl (ap (λ (item : ItemValue). item.version) c.self.view_is) told.1
