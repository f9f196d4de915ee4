use Rattle.std.proofs.Common.{length}
use Rattle.std.specs.String.{string_bytes}
use denote.Text.{Utf8}
use denote.Shadow.{shadow}
use Rattle.multistatus.proofs.Escapes.{RefersOn}
use Rattle.multistatus.proofs.references.resolved_made.Given as goal

abbrev pub invariant-references : goal.invariant-references
invariant-references l = shadow (Utf8 l.rest) × RefersOn (string_bytes l.made) l.rest l.text

abbrev pub decreases-references : goal.decreases-references
decreases-references l = length l.rest
