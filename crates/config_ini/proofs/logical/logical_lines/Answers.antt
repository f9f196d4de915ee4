use Rattle.std.proofs.Common.{List, None, sym, ap, ◌∙◌, ◌++◌, arith}
use Rattle.std.specs.Str.Lines.{lines}
use Rattle.config_ini.specs.declared.kinds.Logical.{Logical}
use Rattle.config_ini.specs.Seen.{from_here}
use Rattle.config_ini.proofs.Held.{begins, nothing_left}
use Rattle.config_ini.proofs.logical.logical_lines.Goals as goal

pub lines-init : goal.lines-init
lines-init c = record {
  found = ap (λ (done : List Logical). done ++ from_here None 1 (lines c.args.bytes.now)) c.new.ensures.items ∙ begins c.args.bytes.now;
  small = omega (arith, c.requires);
}

pub returns : goal.returns
returns c =
    c.in_ok-done.ensures
    ∙ sym (nothing_left c.lines.so_far.done.items c.lines.so_far.held c.lines.number c.lines.rest.now c.in_default.ensures)
    ∙ c.lines.invariant.found
