use Rattle.std.proofs.Common.{◌≡◌, drop}
use Rattle.http_client.specs.Heads.{values_of}
use Rattle.http_client.proofs.fields.first_named.Given as goal

abbrev pub invariant-loop-at : goal.invariant-loop-at
invariant-loop-at l = values_of l.name (drop l.at l.fields) ≡ values_of l.name (drop l.from l.fields)
