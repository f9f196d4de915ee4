use Rattle.std.proofs.Common.{length}
use denote.Text.{Utf8}
use denote.Shadow.{shadow}
use Rattle.multistatus.specs.Reader.{state_of}
use Rattle.multistatus.proofs.Readings.{Reading}
use Rattle.multistatus.proofs.multistatus.rows_of_body.Given as goal

abbrev pub invariant-tokens : goal.invariant-tokens
invariant-tokens l = shadow (Utf8 l.rest) × Reading l.body l.rest (state_of l.reader)

abbrev pub decreases-tokens : goal.decreases-tokens
decreases-tokens l = length l.rest
