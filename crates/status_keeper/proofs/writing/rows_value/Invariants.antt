use Rattle.std.proofs.Common.{◌≡◌, drop}
use Rattle.std.specs.List.{AllByRecursion}
use Rattle.serde_json.specs.Data.{no_members}
use Rattle.serde_json.specs.View.{members_view}
use Rattle.status_keeper.specs.Reading.{FpReads}
use Rattle.status_keeper.proofs.Rising.{put_all}
use Rattle.status_keeper.proofs.writing.rows_value.Given as goal

-- what the rest comes to, put behind the members so far
abbrev pub invariant-loop-row : goal.invariant-loop-row
invariant-loop-row l = record {
  value : put_all (members_view l.members.entries) (drop l.row-index l.rows) ≡ put_all no_members l.rows;
  reads : AllByRecursion FpReads (drop l.row-index l.rows) → AllByRecursion FpReads l.rows;
}
