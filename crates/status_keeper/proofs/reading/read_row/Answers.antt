use Rattle.std.proofs.Common.{string_bytes, sym, ap, ◌∙◌}
use Rattle.serde_json.specs.View.{view}
use Rattle.serde_json.specs.declared.value.Value.{Value}
use Rattle.serde_json.proofs.Views.{view-Array}
use Rattle.status_keeper.specs.Status.{row_from}
use Rattle.status_keeper.proofs.ReadBack.{not_five}
use Rattle.status_keeper.proofs.reading.read_row.Goals as goal

pub returns-in-None-clause-value : goal.returns-in-None-clause-value
returns-in-None-clause-value c = sym (ap (λ (v : Value). row_from (string_bytes c.args.ident) (view v)) c.in-Array.is ∙ ap (row_from (string_bytes c.args.ident)) (view-Array c.in-Array.parts) ∙ not_five (string_bytes c.args.ident) c.in-Array.parts.items c.in-None.ensures.none)
