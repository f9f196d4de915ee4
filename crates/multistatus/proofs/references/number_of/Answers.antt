use Rattle.std.proofs.Common.{◌<◌, ◌≤◌, ◌+◌, ◌*◌, length, get_or, sym, ◌∙◌, arith}
use Rattle.std.specs.Char.{digit_value}
use Rattle.multistatus.proofs.Escapes.{char_past_all, char_next, numbered-some}
use Rattle.multistatus.proofs.references.number_of.Goals as goal

pub returns-then-number-gt-LAST_CHAR : goal.returns-then-number-gt-LAST_CHAR
returns-then-number-gt-LAST_CHAR c =
    let at : c.loop-digit.digit-index < length c.args.digits.now = omega arith in
    let less : digit_value (get_or c.args.digits.now c.loop-digit.digit-index 0) < c.args.base = omega (arith, c.digit_value-value.ensures) in
    let some : 0 < length c.args.digits.now = omega arith in
    let big : 0x10_FFFF < c.loop-digit.number * c.args.base + digit_value (get_or c.args.digits.now c.loop-digit.digit-index 0) = omega (arith, c.digit_value-value.ensures) in
    let enough : 1 ≤ c.args.base = omega arith in
    sym (numbered-some c.args.base c.args.digits.now some ∙ sym c.loop-digit.invariant.same
    ∙ char_next c.args.base c.loop-digit.number c.loop-digit.digit-index c.args.digits.now at less
    ∙ char_past_all c.args.base _ _ enough big)
