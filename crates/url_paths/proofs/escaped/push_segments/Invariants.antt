use Rattle.std.proofs.Common.{◌≡◌, ◌++◌, take}
use Rattle.std.specs.Prelude.{string_bytes}
use Rattle.std.specs.List.{flat_map}
use Rattle.url_paths.specs.Paths.{behind_slash}
use Rattle.url_paths.proofs.escaped.push_segments.Given as goal

abbrev pub invariant-loop-segment : goal.invariant-loop-segment
invariant-loop-segment l = string_bytes l.text ≡ string_bytes l.initial.text ++ flat_map (λ s. behind_slash s.now) (take l.segment-index l.segments)
