use Rattle.config_ini.proofs.Groups.{key_next, key_bad, key_alone}
use Rattle.config_ini.proofs.sections.Grouped.with_key.Goals as goal

pub returns-in-Err : goal.returns-in-Err
returns-in-Err c = λ other rest. key_bad c.args.self.done c.args.self.at c.in-Some.field-0 c.in-Err.error c.args.written rest c.in-Some.is (c.in-Err.ensures other)

pub returns-in-None : goal.returns-in-None
returns-in-None c = λ other rest. key_alone c.args.self.done c.args.self.at c.args.written rest c.in-None.is

pub returns-in_ok-push-in-Some : goal.returns-in_ok-push-in-Some
returns-in_ok-push-in-Some c = λ rest. key_next c.args.self.done c.args.self.at c.in-Some.field-0 c.in-Ok.entry c.push.new.self c.args.written rest c.in-Some.is c.in-Ok.ensures c.in_ok-push-in-Some.ensures.ok
