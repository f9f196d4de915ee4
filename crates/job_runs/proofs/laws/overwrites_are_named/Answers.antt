use Rattle.job_runs.proofs.NamedLemmas.{named_on_a, named_on_b}
use Rattle.job_runs.proofs.laws.overwrites_are_named.Goals as goal

pub returns-clause-on_a : goal.returns-clause-on_a
returns-clause-on_a c rules a b before after href held new sent item honest_a honest_b job own is_item = named_on_a rules a b before after honest_a honest_b job href held new sent item own is_item

pub returns-clause-on_b : goal.returns-clause-on_b
returns-clause-on_b c rules a b before after href held new sent item honest_a honest_b job own is_item = named_on_b rules a b before after honest_a honest_b job href held new sent item own is_item
