use Rattle.std.proofs.Common.{◌≡◌}
use Rattle.std.specs.Str.{is_utf8}
use Rattle.std.specs.List.{list_all}
use Rattle.http_client.proofs.fields.are_texts.Given as goal

abbrev pub invariant-loop-value : goal.invariant-loop-value
invariant-loop-value l = list_all is_utf8 l.value-iterator ≡ list_all is_utf8 l.fn.values
