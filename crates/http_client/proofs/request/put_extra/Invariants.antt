use Rattle.std.proofs.Common.{◌≡◌, ◌++◌, drop}
use Rattle.http_client.specs.Request.{extra_lines}
use Rattle.http_client.proofs.request.put_extra.Given as goal

abbrev pub invariant-loop-name : goal.invariant-loop-name
invariant-loop-name l = l.out.items ++ extra_lines (drop l.name-index l.fields) ≡ l.initial.out.items ++ extra_lines l.fields
