use Rattle.std.proofs.Common.{◌≡◌, drop}
use Rattle.config_ini.proofs.Collected.{onto}
use Rattle.config_model.specs.Meanings.{all_found, meta_of}
use Rattle.config_model.proofs.pair_rules.metadata_listed.Given as goal

abbrev pub invariant-loop-part : goal.invariant-loop-part
invariant-loop-part l = onto l.all (all_found meta_of (drop l.part-index l.parts)) ≡ all_found meta_of l.parts
