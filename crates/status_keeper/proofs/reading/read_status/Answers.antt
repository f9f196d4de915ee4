use Rattle.std.proofs.Common.{◌≡◌, false, true, Some, sym, subst}
use Rattle.serde_json.specs.View.{view, members_view}
use Rattle.status_keeper.specs.Status.{Kept}
use Rattle.status_keeper.specs.Reading.{Gives}
use Rattle.status_keeper.proofs.ReadBack.{kept_by, kept_unread}
use Rattle.status_keeper.proofs.reading.read_status.Goals as goal

pub returns-in-Some-clause-answer : goal.returns-in-Some-clause-answer
returns-in-Some-clause-answer c = subst (λ (kept : Kept). Gives kept c.read_rows.result) (sym (kept_by c.args.bytes.now (view c.in-Ok.value) (Some (members_view c.in-Some.members.entries)) c.in-Ok.ensures.ok.0 c.in-Ok.ensures.ok.1 (sym c.in-Some.ensures))) c.read_rows.ensures.answer

pub returns-else-is_memory-clause-answer : goal.returns-else-is_memory-clause-answer
returns-else-is_memory-clause-answer c = kept_unread c.args.bytes.now (c.in-Err.ensures.err (λ m. let clash : false ≡ true = c.if-is_memory.ensures.1 m in cc))
