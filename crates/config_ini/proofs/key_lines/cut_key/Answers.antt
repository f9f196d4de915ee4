use Rattle.config_ini.proofs.Ascii.{key_is_ascii}
use Rattle.config_ini.proofs.key_lines.cut_key.Goals as goal

pub keyed-requires : goal.keyed-requires
keyed-requires c = key_is_ascii c.args.text.now c.split_at.result.0.now c.args.at c.requires c.split_at.ensures.front
