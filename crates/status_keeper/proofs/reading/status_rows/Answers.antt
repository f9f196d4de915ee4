use Rattle.std.proofs.Common.{sym, ap, ◌∙◌}
use Rattle.serde_json.specs.View.{view}
use Rattle.serde_json.specs.declared.value.Value.{Value}
use Rattle.serde_json.proofs.Views.{view-Object}
use Rattle.status_keeper.specs.Status.{status_rows}
use Rattle.status_keeper.proofs.ReadBack.{not_two}
use Rattle.status_keeper.proofs.reading.status_rows.Goals as goal

pub returns-in-None : goal.returns-in-None
returns-in-None c = sym (ap (λ (v : Value). status_rows (view v)) c.in-Object.is ∙ ap status_rows (view-Object c.in-Object.members) ∙ not_two c.in-Object.members.entries c.in-None.ensures.none)
