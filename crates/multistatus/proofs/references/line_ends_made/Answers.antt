use Rattle.std.proofs.Common.{◌++◌, ◌∷◌, [], ◌∙◌, ap}
use Rattle.std.specs.String.{string_bytes}
use Rattle.multistatus.specs.Texts.{line_ends}
use Rattle.multistatus.proofs.Escapes.{ends_first, ends_last, ends_next}
use Rattle.multistatus.proofs.references.line_ends_made.Goals as goal

pub lines-init : goal.lines-init
lines-init c = (c.utf8.text, ends_first (string_bytes c.in_ok-made.made) c.args.text.now c.in_ok-made.ensures.bytes)

pub returns-in_default : goal.returns-in_default
unfolding line_ends
returns-in_default c =
    ends_last (string_bytes c.lines.made) c.lines.rest.now c.args.text.now c.into_bump_str.result.now c.lines.invariant.1 c.in_default.ensures.found (c.into_bump_str.ensures ∙ c.in_ok-push_str.ensures.bytes)

pub lines-preserved : goal.lines-preserved
lines-preserved c = (
  c.past_line_feed-rest.utf8,
  ends_next (string_bytes c.lines.made) c.lines.rest.now c.args.text.now c.in-Some.line.now c.in-Some.behind.now c.past_line_feed-rest.result.now (string_bytes c.push_str-in-lines-2.new.self)
      c.lines.invariant.1 c.in-Some.ensures.found c.past_line_feed-rest.ensures.rest
      (c.in_ok-push_str-3.ensures.bytes ∙ ap (λ made. made ++ 10 ∷ []) c.in_ok-push_str-2.ensures.bytes),
)
