use Rattle.std.proofs.Common.{◌≡◌, false, true, ◌<◌, List, ◌++◌, length, sym, ap, subst}
use Rattle.serde_json.specs.View.{members_view}
use Rattle.status_keeper.specs.declared.row.Row.{Row}
use Rattle.status_keeper.specs.Idents.{IsRising}
use Rattle.status_keeper.specs.Rows.{row_idents}
use Rattle.status_keeper.specs.Status.{rows_from}
use Rattle.status_keeper.proofs.ReadBack.{onto, bad_next, good_next, none_left}
use Rattle.status_keeper.proofs.Rising.{key_texts, rising_keys, rising_next}
use Rattle.status_keeper.proofs.reading.read_rows.Goals as goal

pub rows-init : goal.rows-init
rows-init c =
    record {
      reads = ap (λ (l : List Row). onto l (rows_from 1 (members_view c.args.members.entries))) c.in-Ok.ensures.items;
      rising = subst (λ (l : List Row). IsRising (row_idents l ++ key_texts c.args.members.entries)) (sym c.in-Ok.ensures.items) (rising_keys c.args.members.entries c.len.ensures.ordered);
    }

pub returns-in_default-read_row-clause-answer : goal.returns-in_default-read_row-clause-answer
returns-in_default-read_row-clause-answer c = bad_next c.rows.rows.items c.rows.number c.rows.rest.entries c.pop_first.new.self.entries c.in-Some.ident c.in-Some.value _ c.in-Some.ensures.removal c.in_default-read_row.ensures.value c.rows.invariant.reads

pub rows-preserved : goal.rows-preserved
rows-preserved c =
    record {
      reads = good_next c.rows.rows.items c.push.new.self.items c.rows.number c.saturating_add-number.result c.rows.rest.entries c.pop_first.new.self.entries c.in-Some.ident c.in-Some.value c.in-Some-read_row.row _ c.in-Some.ensures.removal c.in-Some-read_row.ensures.value c.in-Ok-push.ensures.items c.saturating_add-number.ensures c.rows.invariant.reads;
      rising = rising_next c.rows.rows.items c.push.new.self.items c.in-Some-read_row.row c.in-Some.ident c.in-Some.value c.rows.rest.entries c.pop_first.new.self.entries c.in-Ok-push.ensures.items c.in-Some.ensures.removal c.in-Some-read_row.ensures.ident c.rows.invariant.rising;
    }

pub returns-clause-answer : goal.returns-clause-answer
returns-clause-answer c = none_left c.rows.rows.items c.rows.number c.rows.rest.entries _ (λ (h : 0 < length c.rows.rest.entries). let clash : false ≡ true = c.in_default-pop_first.ensures.variant.1 h in cc) c.rows.invariant.reads
