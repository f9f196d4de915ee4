use Rattle.std.proofs.Common.{length, ◌≤◌}
use denote.Text.{Utf8}
use denote.Shadow.{shadow}
use Rattle.multistatus.specs.Tags.{tag_rest}
use Rattle.multistatus.proofs.InTags.{TagOn}
use Rattle.multistatus.proofs.tags.tag_rest.Given as goal

abbrev pub invariant-attributes : goal.invariant-attributes
invariant-attributes l = shadow (Utf8 l.rest) × TagOn l.attributes l.rest (tag_rest (length l.text) l.text) × (length l.rest ≤ length l.text)

abbrev pub decreases-attributes : goal.decreases-attributes
decreases-attributes l = length l.rest
