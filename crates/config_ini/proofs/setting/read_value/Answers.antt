use Rattle.std.proofs.Common.{◌≡◌, true, false}
use Rattle.serde_json.specs.View.{view}
use Rattle.config_ini.proofs.Values.{value_read, value_unread}
use Rattle.config_ini.proofs.setting.read_value.Goals as goal

pub returns-in_ok-setting-in-Ok : goal.returns-in_ok-setting-in-Ok
returns-in_ok-setting-in-Ok c = value_read c.args.number c.args.bytes.now (view c.in-Ok.value) c.in_ok-setting-in-Ok.setting c.in-Ok.ensures.ok.0 c.in-Ok.ensures.ok.1 c.in_ok-setting-in-Ok.ensures

pub returns-else-is_memory : goal.returns-else-is_memory
returns-else-is_memory c = λ other. value_unread c.args.number c.args.bytes.now (c.in-Err.ensures.err (λ m. let clash : false ≡ true = c.if-is_memory.ensures.1 m in cc))
