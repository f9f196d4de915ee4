use Rattle.std.proofs.Common.{Some, ap, ◌∙◌}
use Rattle.std.specs.String.{string_bytes}
use Rattle.side_reads.specs.Places.{rows_at}
use Rattle.side_reads.proofs.PlaceLemmas.{added, passed_over}
use Rattle.side_reads.proofs.places.Places.of.Goals.{in-Some+in_ok-from_str+in_ok-add, in_default}
use Rattle.side_reads.proofs.places.Places.of.Goals as goal

pub loop-row-preserved : goal.loop-row-preserved
loop-row-preserved c = elim c.match-href_on.branch [
  | in-Some+in_ok-from_str+in_ok-add w ↦ λ q.
      added c.args.side q (string_bytes w.in_ok-from_str.field-0) c.args.rows.now c.loop-row.row-index c.row-item.result (rows_at c.loop-row.by_href q) (rows_at c.match-href_on.by_href q) c.loop-row-test.true c.row-item.is
      (ap Some w.in_ok-from_str.ensures.ok ∙ w.in-Some.ensures)
      (ap (λ m. rows_at m q) w.by_href-is ∙ w.in_ok-add.ensures q)
      (c.loop-row.invariant q)
  | in_default w ↦ λ q.
      passed_over c.args.side q c.args.rows.now c.loop-row.row-index c.row-item.result (rows_at c.match-href_on.by_href q) c.loop-row-test.true c.row-item.is w.in_default.ensures
      (ap (λ m. rows_at m q) w.by_href-is ∙ c.loop-row.invariant q)
]
