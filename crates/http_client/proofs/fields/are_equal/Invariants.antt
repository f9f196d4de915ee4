use Rattle.std.proofs.Common.{◌≡◌}
use Rattle.std.specs.List.{list_all}
use Rattle.std.specs.Str.{bytes_eq}
use Rattle.http_client.proofs.fields.are_equal.Given as goal

abbrev pub invariant-loop-value : goal.invariant-loop-value
invariant-loop-value l = list_all (bytes_eq l.first) l.value-iterator ≡ list_all (bytes_eq l.first) l.fn.values
