use Rattle.std.proofs.Common.{sym, ◌∙◌, ap}
use Rattle.std.specs.Str.Lines.{strip_carriage_return}
use Rattle.config_ini.proofs.Cuts.{line_cut, only_line, some_bytes}
use Rattle.config_ini.proofs.lines.cut_line.Goals as goal

pub returns-in-Some : goal.returns-in-Some
returns-in-Some c = line_cut c.args.bytes.now c.without_return.result.now c.behind.result.now c.in-Some.at (sym c.in-Some.ensures.first) (c.without_return.ensures ∙ ap strip_carriage_return c.split_at.ensures.front) c.behind.ensures

pub returns-else-is_empty : goal.returns-else-is_empty
returns-else-is_empty c = (only_line c.args.bytes.now (sym c.in-None.ensures.first) (sym c.is_empty.ensures ∙ c.if-is_empty.false), some_bytes c.args.bytes.now (sym c.is_empty.ensures ∙ c.if-is_empty.false))
