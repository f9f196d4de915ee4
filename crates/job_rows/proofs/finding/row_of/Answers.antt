use Rattle.std.proofs.Common.{rules, of_calls}
use Rattle.std.specs.Cmp.Lexicographic.{slice_cmp}
use Rattle.std.specs.Ordering.{nat_cmp}
use Rattle.std.proofs.lemmas.Fn.{always_returns_same}
use Rattle.status_keeper.specs.declared.row.Row.{Row}
use Rattle.job_rows.proofs.FindLemmas.{searchable, found, not_found}
use Rattle.job_rows.proofs.finding.row_of.Goals as goal

pub returns-in-Ok : goal.returns-in-Ok
returns-in-Ok c =
    let by = c.in-Ok.ensures.position (λ (r : Row). slice_cmp nat_cmp r.ident c.args.ident.now) (always_returns_same _ _ _ (λ a r f k. search (rules, of_calls))) in
    found c.args.rows.now c.args.ident.now c.in-Ok.place c.index-rows-place.result c.requires c.in-Ok.ensures.bound c.index-rows-place.is by

pub returns-in-Err : goal.returns-in-Err
returns-in-Err c =
    let by = c.in-Err.ensures.position (λ (r : Row). slice_cmp nat_cmp r.ident c.args.ident.now) (always_returns_same _ _ _ (λ a r f k. search (rules, of_calls))) in
    not_found c.args.rows.now c.args.ident.now c.in-Err.field-0 (by (searchable c.args.rows.now c.args.ident.now c.requires))
