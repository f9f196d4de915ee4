use Rattle.std.proofs.Common.{sym, ◌∙◌, ap, not, List, ℕ, ◌++◌}
use Rattle.std.specs.List.{list_all}
use Rattle.item_text.specs.Components.{is_lower}
use Rattle.std.proofs.lemmas.Slice.Eq.{bytes_eq-Decides}
use Rattle.item_text.proofs.AsciiCase.{headed}
use Rattle.item_text.proofs.walk.is_headed.Goals as goal

pub returns-then-eq : goal.returns-then-eq
returns-then-eq c h =
    let cut = c.in-Some.ensures.cases in
    headed c.args.text.now c.args.head.now c.in-Some.rest.now c.args.name.now (cut.1.1 ∙ ap (λ (t : List ℕ). c.args.head.now ++ t) (sym cut.2)) ((bytes_eq-Decides c.in-Some.rest.now c.args.name.now).0 (sym c.if-eq.ensures)) (ap (λ (t : List ℕ). list_all (λ b. not (is_lower b)) t) (sym c.as_bytes.ensures.value) ∙ (sym c.has_no_lower.ensures ∙ h))
