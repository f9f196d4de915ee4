use Rattle.std.proofs.Common.{Contains}
use Rattle.sync_plan.proofs.Keeping.{ident_keeps, undisputed_along}
use Rattle.sync_plan.proofs.laws.due_is_kept.Goals as goal

pub returns : goal.returns
returns c rules run ident step untouched undisputed =
    let same = ident_keeps rules (run.before ident) (run.after ident) (Contains run.writes_a ident) (Contains run.writes_b ident) (step.each ident untouched) undisputed in
    (undisputed_along rules (run.before ident) (run.after ident) same undisputed, same)
