use Rattle.std.proofs.Common.{◌∙◌, sym, arith}
use Rattle.child_cmd.proofs.ValueLemmas.{one_less, no_less}
use Rattle.child_cmd.proofs.value_text.value_len.Goals as goal

pub returns-then-not-is_line_end : goal.returns-then-not-is_line_end
returns-then-not-is_line_end c =
    no_less c.args.bytes.now c.ends.end _ (omega arith) c.ends.invariant.inside (sym c.is_line_end.ensures ∙ c.if-not-is_line_end.true) c.ends.invariant.same

pub ends-preserved : goal.ends-preserved
ends-preserved c = record {
  inside = omega arith;
  same = one_less c.args.bytes.now c.ends.end _ (omega arith) c.ends.invariant.inside (sym c.is_line_end.ensures ∙ c.if-not-is_line_end.false) c.ends.invariant.same;
}
