use Rattle.std.proofs.Common.{◌∙◌, ap}
use Rattle.item_text.specs.Refusals.{begins_child}
use Rattle.item_text.specs.Places.{place_seen}
use Rattle.item_text.specs.Kinds.{kind_seen}
use Rattle.item_text.specs.declared.words.LineKind.{LineKind}
use Rattle.item_text.proofs.Stacks.{begins_no_closes, begins_no_property, begins_no_blank}
use Rattle.item_text.proofs.stack.Stack.begins_child.Goals as goal

pub returns-in-Closes : goal.returns-in-Closes
returns-in-Closes c = λ number. ap (λ (k : LineKind). begins_child number (place_seen c.args.self.now) (kind_seen k)) c.in-Closes.is ∙ begins_no_closes number (place_seen c.args.self.now) _

pub returns-in-Property : goal.returns-in-Property
returns-in-Property c = λ number. ap (λ (k : LineKind). begins_child number (place_seen c.args.self.now) (kind_seen k)) c.in-Property.is ∙ begins_no_property number (place_seen c.args.self.now) _ _

pub returns-in-Blank : goal.returns-in-Blank
returns-in-Blank c = λ number. ap (λ (k : LineKind). begins_child number (place_seen c.args.self.now) (kind_seen k)) c.in-Blank.is ∙ begins_no_blank number (place_seen c.args.self.now)
