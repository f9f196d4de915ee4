use Rattle.std.specs.Prelude.{Result}
use Rattle.std.proofs.Common.{List, sym, subst}
use Rattle.config_ini.specs.declared.error.ConfigError.{ConfigError}
use Rattle.config_ini.specs.declared.sections.Section.{Section}
use Rattle.config_ini.specs.Answers.{Gives}
use Rattle.config_ini.proofs.Refusals.{unflawed, flawed}
use Rattle.config_ini.proofs.sections.sections_in.Goals as goal

pub returns-in-Ok : goal.returns-in-Ok
returns-in-Ok c =
    subst (λ (r : Result (List Section) ConfigError). Gives r c.sections_of.result) (sym (unflawed c.args.bytes.now c.in_ok-lines.lines.items c.as_slice.result.now c.in_ok-lines.ensures c.as_slice.ensures.value c.in-Ok.ensures)) c.sections_of.ensures

pub returns-in-Err : goal.returns-in-Err
returns-in-Err c = λ other. flawed c.args.bytes.now c.in_ok-lines.lines.items c.as_slice.result.now c.in-Err.error c.in_ok-lines.ensures c.as_slice.ensures.value (c.in-Err.ensures other)
