use Rattle.std.proofs.Common.{◌≡◌, ◌∙◌, ap, subst, false, List, map, IfOk, arith}
use Rattle.std.specs.List.{filter_map}
use Rattle.item_text.specs.Lines as spec
use Rattle.item_text.specs.Components.{placed}
use Rattle.item_text.specs.Refusals.{fault_of}
use Rattle.item_text.specs.declared.edit.Role.{Role}
use Rattle.item_text.specs.Edits.{role_of, changes, changes_of}
use Rattle.item_text.proofs.Readings.{body_short, body_lines}
use Rattle.item_text.proofs.edit.changes_of.Goals as goal

pub roles-requires-clause-size : goal.roles-requires-clause-size
roles-requires-clause-size c = omega (arith, c.of-lines.ensures.size, c.requires.short, body_short c.args.text.now _ c.without_mark.ensures)

pub roles-requires-clause-fine : goal.roles-requires-clause-fine
roles-requires-clause-fine c = ap (λ (ls : List spec.Line). filter_map fault_of (placed ls)) (c.of-lines.ensures.left ∙ body_lines c.args.text.now _ c.without_mark.ensures) ∙ c.requires.fine

pub returns : goal.returns
unfolding changes_of
returns c =
    subst (λ (rs : List Role). IfOk c.changes.result (λ v. v.items ≡ changes false rs))
    (c.deref.ensures.value ∙ (c.in_ok-roles.ensures ∙ ap (λ (ls : List spec.Line). map role_of (placed ls)) (c.of-lines.ensures.left ∙ body_lines c.args.text.now _ c.without_mark.ensures))) c.changes.ensures
