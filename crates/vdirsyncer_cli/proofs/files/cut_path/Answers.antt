use Rattle.vdirsyncer_cli.proofs.Cuts.{cut_some, cut_none}
use Rattle.vdirsyncer_cli.proofs.files.cut_path.Goals as goal

pub returns-in-Some-clause-some : goal.returns-in-Some-clause-some
returns-in-Some-clause-some c =
    let (i, j, found, front, back, ordered, short, len) = c.in-Some.ensures.cases in
    cut_some c.args.file.now c.in-Some.folder.now c.in-Some.name.now i j found front back len

pub returns-in-None-clause-none : goal.returns-in-None-clause-none
returns-in-None-clause-none c = cut_none c.args.file.now c.in-None.ensures.cases
