-- The rules of a pair, as a run takes them (this project's own).
use Rattle.std.specs.Prelude.{false}
use Rattle.config_model.specs.declared.config.PairConf.{PairConf}
use Rattle.config_model.specs.declared.rules.ConflictRule.{ConflictRule as WrittenRule}
use Rattle.config_model.specs.declared.rules.ConflictRule.TheVariants as rule
use Rattle.config_model.specs.declared.rules.Partial.{Partial as WrittenPartial}
use Rattle.config_model.specs.declared.rules.Partial.TheVariants as partial
use Rattle.sync_plan.specs.declared.rules.ConflictRule.{ConflictRule}
use Rattle.sync_plan.specs.declared.rules.ConflictRule.TheVariants.{Null, AWins, BWins, Command}
use Rattle.sync_plan.specs.declared.rules.Partial.{Partial}
use Rattle.sync_plan.specs.declared.rules.Partial.TheVariants.{Error, Ignore, Revert}
use Rattle.sync_plan.specs.declared.rules.Rules.{Rules}

abbrev pub conflict_of : WrittenRule → ConflictRule
conflict_of rule.Null = Null
conflict_of rule.AWins = AWins
conflict_of rule.BWins = BWins
conflict_of rule.Command = Command

abbrev pub partial_of : WrittenPartial → Partial
partial_of partial.Error = Error
partial_of partial.Ignore = Ignore
partial_of partial.Revert = Revert

-- read-only storages aren't built: both sides may be written
abbrev pub rules_of : PairConf → Rules
rules_of pair = record { conflict = conflict_of pair.conflict; partial = partial_of pair.partial; a_read_only = false; b_read_only = false }
