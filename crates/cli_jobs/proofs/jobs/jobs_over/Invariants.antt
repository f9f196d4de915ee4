use Rattle.std.specs.Option.{option_copied}
use Rattle.cli_jobs.proofs.JobLists.{ComesTo}
use Rattle.cli_jobs.proofs.jobs.jobs_over.Given as goal

abbrev pub invariant-loop-pair : goal.invariant-loop-pair
invariant-loop-pair l = ComesTo l.names (option_copied l.home) l.storages l.status l.pairs l.pair-index l.jobs
