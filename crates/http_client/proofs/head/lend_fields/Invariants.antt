use Rattle.std.proofs.Common.{◌≡◌, ◌++◌, drop, map}
use Rattle.httparse.specs.Spans.{header_bytes}
use Rattle.http_client.proofs.head.lend_fields.Given as goal

abbrev pub invariant-loop-span : goal.invariant-loop-span
invariant-loop-span l = l.fields.items ++ map (header_bytes l.bytes) (drop l.span-index l.spans) ≡ map (header_bytes l.bytes) l.spans
