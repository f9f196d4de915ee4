use Rattle.std.proofs.Common.{rules, inl}
use Rattle.vdirsyncer_cli.proofs.jobs.run_next.Goals as goal

pub returns-in-Whole-clause-ran : goal.returns-in-Whole-clause-ran
returns-in-Whole-clause-ran g c =
    record { report = c.in-Ok-run_one.report; ran = c.in-Ok-run_one.ensures.ran; reports = search rules; printed = rw c.as_str.ensures at c.tell-cut.ensures }

pub returns-in-WriteFault-clause-ran : goal.returns-in-WriteFault-clause-ran
returns-in-WriteFault-clause-ran g c =
    record { report = c.in-Ok-run_one.report; ran = c.in-Ok-run_one.ensures.ran; reports = search rules; printed = rw c.as_str.ensures at c.tell-cut.ensures }

pub returns-in-Starved-clause-stopped : goal.returns-in-Starved-clause-stopped
returns-in-Starved-clause-stopped g c =
    inl (record { report = c.in-Ok-run_one.report; ran = c.in-Ok-run_one.ensures.ran; reports = search rules; printed = rw c.as_str.ensures at c.tell-cut.ensures })
