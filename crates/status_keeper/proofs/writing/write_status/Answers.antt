use Rattle.std.proofs.Common.{◌≡◌, ◌≤◌, Some, sym, ap, ◌∙◌, subst}
use Rattle.std.proofs.lemmas.Str.{is_utf8-from_IsUtf8}
use Rattle.serde_json.specs.Data.{Data, depth}
use Rattle.serde_json.specs.Read.{max_depth}
use Rattle.serde_json.specs.View.{view}
use Rattle.serde_json.specs.Written.{has_float, compact_text}
use Rattle.status_keeper.specs.Status.{status_data, text_of}
use Rattle.status_keeper.proofs.ReadBack.{means_rows}
use Rattle.status_keeper.proofs.Texts.{status_has_no_float, status_depth}
use Rattle.status_keeper.proofs.writing.write_status.Goals as goal

pub returns-clause-text : goal.returns-clause-text
unfolding text_of
returns-clause-text c =
    let v : view c.in_ok-status.status ≡ status_data c.args.rows.now = c.in_ok-status.ensures.value in
    c.in_ok-to_vec.ensures.text (ap has_float v ∙ status_has_no_float c.args.rows.now) ∙ ap compact_text v

pub returns-clause-means : goal.returns-clause-means
returns-clause-means c =
    let v : view c.in_ok-status.status ≡ status_data c.args.rows.now = c.in_ok-status.ensures.value in
    means_rows c.in_ok-to_vec.field-0.items c.args.rows.now (is_utf8-from_IsUtf8 c.in_ok-to_vec.field-0.items c.in_ok-to_vec.ensures.utf8) (c.in_ok-to_vec.ensures.reads_back (subst (λ (d : Data). depth d ≤ max_depth) (sym v) (status_depth c.args.rows.now)) ∙ ap Some v) c.in_ok-status.ensures.reads
