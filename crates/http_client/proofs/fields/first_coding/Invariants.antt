use Rattle.std.proofs.Common.{◌≡◌}
use Rattle.http_client.specs.Heads.{first_coding}
use Rattle.http_client.proofs.fields.first_coding.Given as goal

abbrev pub invariant-loop-value : goal.invariant-loop-value
invariant-loop-value l = first_coding l.value-iterator ≡ first_coding l.fn.values
