use Rattle.std.proofs.Common.{◌∙◌, sym, subst}
use Rattle.std.specs.Str.{IsAscii}
use Rattle.config_ini.proofs.Ascii.{lower_is_ascii}
use Rattle.config_ini.proofs.key_lines.keyed.Goals as goal

pub key_from-requires : goal.key_from-requires
key_from-requires c = subst IsAscii (sym (c.as_bytes.ensures.value ∙ c.in_ok-lower.ensures)) (lower_is_ascii c.args.key.now c.requires)
