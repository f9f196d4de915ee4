use Rattle.std.proofs.Common.{◌≡◌, ◌+◌, drop}
use Rattle.std.specs.Option.{option_map}
use Rattle.http_client.specs.Frames.{empty_line_end}
use Rattle.http_client.proofs.frames.empty_line_end.Given as goal

abbrev pub invariant-loop-at : goal.invariant-loop-at
invariant-loop-at l = option_map (λ n. l.at + n) (empty_line_end (drop l.at l.bytes)) ≡ empty_line_end l.bytes
