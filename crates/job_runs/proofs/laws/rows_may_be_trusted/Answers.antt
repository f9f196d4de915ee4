use Rattle.job_runs.proofs.TakenLemmas.{took_saw, over_seen}
use Rattle.job_runs.proofs.laws.rows_may_be_trusted.Goals as goal

pub returns-clause-took : goal.returns-clause-took
returns-clause-took c course ident saw is trues took = took_saw course ident saw is trues took

pub returns-clause-over : goal.returns-clause-over
returns-clause-over c course ident href saw old is trues over = over_seen course ident href saw old is trues over
