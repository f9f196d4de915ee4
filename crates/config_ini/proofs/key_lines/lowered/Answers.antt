use Rattle.std.proofs.lemmas.Str.{IsUtf8-from_ascii}
use Rattle.config_ini.proofs.key_lines.lowered.Goals as goal

pub unreachable-requires : goal.unreachable-requires
unreachable-requires c = c.in-Err.ensures.cases.0 (IsUtf8-from_ascii c.args.key.now c.requires)
