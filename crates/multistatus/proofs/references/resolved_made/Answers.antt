use Rattle.std.proofs.Common.{◌∙◌, ap, ◌++◌, rules}
use Rattle.std.specs.Prelude.{encode_utf8}
use Rattle.std.specs.String.{string_bytes}
use Rattle.multistatus.specs.Texts.{resolved_text}
use Rattle.multistatus.proofs.Escapes.{refers_first, refers_last, refers_unended, refers_unknown, refers_next}
use Rattle.multistatus.proofs.references.resolved_made.Goals as goal

pub references-init : goal.references-init
references-init c = (c.utf8.text, refers_first _ c.args.text.now c.in_ok-made.ensures.bytes)

pub returns-in_default : goal.returns-in_default
unfolding resolved_text
returns-in_default c = refers_last (string_bytes c.references.made) c.references.rest.now c.args.text.now c.into_bump_str.result.now c.references.invariant.1 c.in_default.ensures.found (c.into_bump_str.ensures ∙ c.in_ok-push_str.ensures.bytes)

pub returns-in_default-cut : goal.returns-in_default-cut
unfolding resolved_text
returns-in_default-cut c = refers_unended (string_bytes c.references.made) c.references.rest.now c.args.text.now c.in-Some.plain.now c.in-Some.behind.now c.references.invariant.1 c.in-Some.ensures.found c.in_default-cut.ensures.found

pub returns-in_default-character_of : goal.returns-in_default-character_of
unfolding resolved_text
returns-in_default-character_of c = refers_unknown (string_bytes c.references.made) c.references.rest.now c.args.text.now c.in-Some.plain.now c.in-Some.behind.now c.in-Some-cut.name.now c.in-Some-cut.after.now c.references.invariant.1 c.in-Some.ensures.found c.in-Some-cut.ensures.found c.in_default-character_of.ensures

pub references-preserved : goal.references-preserved
references-preserved c = (
  search rules,
  refers_next (string_bytes c.references.made) c.references.rest.now c.args.text.now c.in-Some.plain.now c.in-Some.behind.now c.in-Some-cut.name.now c.in-Some-cut.after.now (encode_utf8 c.in-Some-character_of.char) (string_bytes c.push.new.self) c.references.invariant.1 c.in-Some.ensures.found c.in-Some-cut.ensures.found c.in-Some-character_of.ensures
      (c.in_ok-push.ensures.bytes ∙ ap (λ made. made ++ encode_utf8 c.in-Some-character_of.char) c.in_ok-push_str-2.ensures.bytes),
)
