use Rattle.std.proofs.Common.{◌≤◌, length, sym, ap, ◌∙◌, arith}
use Rattle.std.proofs.Math.ListN.{drop_of_length-le}
use Rattle.serde_json.specs.View.{members_view}
use Rattle.status_keeper.proofs.Rising.{put_all, put_all-rows}
use Rattle.status_keeper.proofs.writing.rows_value.Goals as goal

pub returns-clause-value : goal.returns-clause-value
returns-clause-value c =
    let over : length c.args.rows.now ≤ c.loop-row.row-index = omega arith in
    sym (ap (put_all (members_view c.loop-row.members.entries)) (drop_of_length-le c.args.rows.now over)) ∙ c.loop-row.invariant.value ∙ put_all-rows c.args.rows.now c.requires
