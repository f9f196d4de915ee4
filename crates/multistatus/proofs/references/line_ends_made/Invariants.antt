use Rattle.std.proofs.Common.{length}
use Rattle.std.specs.String.{string_bytes}
use denote.Text.{Utf8}
use denote.Shadow.{shadow}
use Rattle.multistatus.proofs.Escapes.{EndsOn}
use Rattle.multistatus.proofs.references.line_ends_made.Given as goal

abbrev pub invariant-lines : goal.invariant-lines
invariant-lines l = shadow (Utf8 l.rest) × EndsOn (string_bytes l.made) l.rest l.text

abbrev pub decreases-lines : goal.decreases-lines
decreases-lines l = length l.rest
