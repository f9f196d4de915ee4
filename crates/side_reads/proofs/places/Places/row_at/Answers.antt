use Rattle.std.proofs.Common.{map, ◌∙◌, ap}
use Rattle.std.specs.List.{find}
use Rattle.side_reads.proofs.PlaceLemmas.{found_at}
use Rattle.side_reads.specs.Places.{etag_on, is_text, row_at, rows_in, rows_at}
use Rattle.side_reads.proofs.places.Places.row_at.Goals as goal

pub returns-in-Some : goal.returns-in-Some
returns-in-Some c =
    c.first_with.ensures
    ∙ (found_at c.self.inside.side c.args.href.now c.args.etag.now c.self.inside.rows.now (map (λ r. r.now) c.deref.result.now)
    (ap (λ l. map (λ r. r.now) l) c.deref.ensures.value ∙ (ap rows_in c.in-Some.ensures.value ∙ c.self.invariant c.args.href.now))
    ∙ ap (λ v. row_at v.side c.args.href.now c.args.etag.now v.rows) c.self.view_is)

pub returns-in-None : goal.returns-in-None
returns-in-None c =
    ap (λ o. find (λ r. is_text (etag_on c.self.inside.side r) c.args.etag.now) (rows_in o)) c.in-None.ensures.value
    ∙ (found_at c.self.inside.side c.args.href.now c.args.etag.now c.self.inside.rows.now (rows_at c.self.inside.by_href c.args.href.now) (c.self.invariant c.args.href.now)
    ∙ ap (λ v. row_at v.side c.args.href.now c.args.etag.now v.rows) c.self.view_is)
