use Rattle.std.proofs.Common.{◌≤◌, length, sym, ap, ◌∙◌, arith}
use Rattle.std.proofs.Math.ListN.{drop_of_length-le}
use Rattle.config_ini.specs.Repeats.{has, flaw_left}
use Rattle.config_ini.proofs.Before.{no_lines}
use Rattle.config_ini.proofs.flaws.find_flaw.Goals as goal

pub returns : goal.returns
returns c =
    let over : length c.args.lines.now ≤ c.loop-line.line-index = omega arith in
    sym c.loop-line.invariant
    ∙ ap (flaw_left c.loop-line.seen) (drop_of_length-le c.args.lines.now over)
    ∙ no_lines (has c.loop-line.seen.sections.keys) (has c.loop-line.seen.keys.keys) c.loop-line.seen.at
