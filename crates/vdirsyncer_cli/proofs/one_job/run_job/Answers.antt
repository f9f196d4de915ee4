use Rattle.std.proofs.Common.{inl}
use Rattle.vdirsyncer_cli.proofs.JobLaws.{ran_of, not_so}
use Rattle.vdirsyncer_cli.proofs.one_job.run_job.Goals as goal

pub returns-clause-ran : goal.returns-clause-ran
returns-clause-ran g c =
    inl (ran_of _ _ _ _ _ _ _ _ _ c.args.job _ _ _ _ _ _ c.as_str-a.ensures c.as_str-b.ensures c.as_str-status.ensures
    (not_so c.is_same_place.result _ c.if-is_same_place.false c.is_same_place.ensures.1)
    c.in-Ok.ensures.opened c.run_over-dirs.ensures c.give_three.ensures.given)
