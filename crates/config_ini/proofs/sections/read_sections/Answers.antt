use Rattle.std.specs.Prelude.{Result}
use Rattle.std.proofs.Common.{List, sym, subst, arith}
use Rattle.config_ini.specs.declared.error.ConfigError.{ConfigError}
use Rattle.config_ini.specs.declared.sections.Section.{Section}
use Rattle.config_ini.specs.Answers.{Gives}
use Rattle.config_ini.proofs.Refusals.{too_long, within, not_utf8}
use Rattle.config_ini.proofs.sections.read_sections.Goals as goal

pub returns-then-bytes-gt-LIMIT : goal.returns-then-bytes-gt-LIMIT
returns-then-bytes-gt-LIMIT c = λ other. too_long c.args.bytes.now (omega arith)

pub returns-in-Ok : goal.returns-in-Ok
returns-in-Ok c = subst (λ (r : Result (List Section) ConfigError). Gives r c.sections_in.result) (sym (within c.args.bytes.now (omega arith) c.in-Ok.ensures.cases.1)) c.sections_in.ensures

pub returns-in-Err : goal.returns-in-Err
returns-in-Err c = λ other. not_utf8 c.args.bytes.now (omega arith) c.in-Err.ensures.cases.0
