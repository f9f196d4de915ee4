use Rattle.std.proofs.Common.{◌≡◌, ◌++◌, List, map, string_bytes, refl, ap, ◌∙◌, subst}
use Rattle.std.specs.List.{flat_map}
use Rattle.file_text.specs.Joining.{AreZones, AreChildren}
use Rattle.file_text.specs.Joins.{calendars, zones_of, children_in}
use Rattle.file_text.specs.Parts.{cut, parts_of}
use Rattle.file_text.specs.Spans.{parts_at}
use Rattle.file_text.specs.Written.{written}
use Rattle.file_text.specs.declared.marks.Mark.{Mark}
use Rattle.file_text.specs.declared.parts.Level.TheVariants as level
use Rattle.file_text.specs.declared.parts.PartKind.{PartKind}
use Rattle.file_text.specs.declared.parts.PartKind.TheVariants as kind
use Rattle.file_text.specs.declared.parts.Span.{Span}
use Rattle.file_text.proofs.JoinSteps.{calendar_added}
use Rattle.file_text.proofs.join.Joining.add_calendar.Goals as goal

found_is : (lines : List Mark) (part : PartKind) (spans lent found found_lent : List Span) → parts_at lines spans ≡ cut level.Component lines → lent ≡ spans → parts_at lines found ≡ parts_of part (parts_at lines lent) → found_lent ≡ found
    → parts_at lines found_lent ≡ parts_of part (cut level.Component lines)
found_is lines part spans lent found found_lent h e k f =
    ap (λ (s : List Span). parts_at lines s) f ∙ (k ∙ ap (parts_of part) (ap (λ (s : List Span). parts_at lines s) e ∙ h))

pub returns : goal.returns
unfolding zones_of
returns c = λ items is.
    let lines = c.args.lines.now in
    let zones = found_is lines kind.Zone _ _ _ _ c.in_ok-spans.ensures c.deref-2.ensures.value c.in_ok-zones.ensures c.deref-3.ensures.value in
    let children = found_is lines kind.Child _ _ _ _ c.in_ok-spans.ensures c.deref-4.ensures.value c.in_ok-children.ensures c.deref-5.ensures.value in
    calendar_added items lines c.args.self.now _ c.requires is refl
    (c.in_ok-put_head.ensures (ap (λ (s : List Span). parts_at lines s) c.deref.ensures.value ∙ c.in_ok-spans.ensures))
    (λ are. subst (λ (ps : List (List Mark)). AreZones c.put_zones.new.seen.keys (string_bytes c.put_zones.new.zones) (flat_map zones_of (calendars items) ++ map written ps)) zones (c.in_ok-put_zones.ensures (flat_map zones_of (calendars items)) are))
    (λ are. subst (λ (ps : List (List Mark)). AreChildren (string_bytes c.put_children.new.out) c.put_children.new.lengths (flat_map children_in (calendars items) ++ ps)) children (c.in_ok-put_children.ensures (flat_map children_in (calendars items)) are)) refl refl
