use Rattle.std.proofs.Common.{◌≡◌, ◌++◌, ◌∷◌, [], drop, sym, arith}
use Rattle.sync_plan.proofs.Merges.{merging_more, merging_end, fewer}
use Rattle.sync_plan.proofs.planning.merge.Goals as goal

pub loop-ident-smaller : goal.loop-ident-smaller
loop-ident-smaller c =
    fewer (drop c.loop-ident.at.a c.args.a.now) (drop c.loop-ident.at.b c.args.b.now) (drop c.take-found_a.result.1 c.args.a.now) (drop c.take-found_b.result.1 c.args.b.now) (drop c.loop-ident.at.row c.args.rows.now) (drop c.take_row-row.result.1 c.args.rows.now) c.in-Some.ident.now
    (sym c.in-Some.ensures) c.take-found_a.ensures.rest c.take-found_b.ensures.rest c.take_row-row.ensures.rest

pub loop-ident-preserved : goal.loop-ident-preserved
loop-ident-preserved c =
    let pushed : c.push.new.self.items ≡ c.loop-ident.steps.items ++ c.planned-step.result ∷ [] = grind (arith, c.push.ensures.items, c.is_err.ensures.negation) in
    merging_more c.args.a.now c.args.b.now c.args.rows.now c.args.rules.now (drop c.loop-ident.at.a c.args.a.now) (drop c.loop-ident.at.b c.args.b.now) (drop c.take-found_a.result.1 c.args.a.now) (drop c.take-found_b.result.1 c.args.b.now) (drop c.loop-ident.at.row c.args.rows.now) (drop c.take_row-row.result.1 c.args.rows.now) c.loop-ident.steps.items c.push.new.self.items c.in-Some.ident.now c.planned-step.result
    c.loop-ident.invariant
    (record {
      least = sym c.in-Some.ensures;
      found_a = c.take-found_a.result.0;
      found_b = c.take-found_b.result.0;
      row = c.take_row-row.result.0;
      is_a = c.take-found_a.ensures.found;
      is_b = c.take-found_b.ensures.found;
      is_row = c.take_row-row.ensures.found;
      ident = c.planned-step.ensures.ident;
      place_a = c.planned-step.ensures.a;
      place_b = c.planned-step.ensures.b;
      by_table = c.planned-step.ensures.step;
    })
    c.take-found_a.ensures.rest c.take-found_b.ensures.rest c.take_row-row.ensures.rest pushed

pub returns-clause-ok : goal.returns-clause-ok
returns-clause-ok c =
    merging_end c.args.a.now c.args.b.now c.args.rows.now c.args.rules.now (drop c.loop-ident.at.a c.args.a.now) (drop c.loop-ident.at.b c.args.b.now) (drop c.loop-ident.at.row c.args.rows.now) c.loop-ident.steps.items c.loop-ident.invariant (sym c.in_default.ensures)
