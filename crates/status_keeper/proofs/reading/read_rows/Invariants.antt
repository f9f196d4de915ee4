use Rattle.std.proofs.Common.{◌≡◌, ◌++◌, btree_map_len}
use Rattle.serde_json.specs.View.{members_view}
use Rattle.status_keeper.specs.Idents.{IsRising}
use Rattle.status_keeper.specs.Rows.{row_idents}
use Rattle.status_keeper.specs.Status.{rows_from}
use Rattle.status_keeper.proofs.ReadBack.{onto}
use Rattle.status_keeper.proofs.Rising.{key_texts}
use Rattle.status_keeper.proofs.reading.read_rows.Given as goal

-- what a reading of the rest comes to, behind the rows so far
abbrev pub invariant-rows : goal.invariant-rows
invariant-rows l = record {
  reads : onto l.rows.items (rows_from l.number (members_view l.rest.entries)) ≡ rows_from 1 (members_view l.fn.members.entries);
  rising : IsRising (row_idents l.rows.items ++ key_texts l.rest.entries);
}

abbrev pub decreases-rows : goal.decreases-rows
decreases-rows l = btree_map_len l.rest
