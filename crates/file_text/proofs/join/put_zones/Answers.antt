use Rattle.std.proofs.Common.{refl, ◌++◌, ◌∷◌, [], List, subst, string_bytes, map, take}
use Rattle.file_text.specs.Joining.{AreZones}
use Rattle.file_text.specs.Spans.{parts_at}
use Rattle.file_text.specs.Written.{written}
use Rattle.file_text.specs.declared.marks.Mark.{Mark}
use Rattle.file_text.proofs.Zones.{zones_next, zones_start}
use Rattle.file_text.proofs.join.put_zones.Goals as goal

pub loop-span-init : goal.loop-span-init
loop-span-init c = λ all are. zones_start _ _ all are

pub loop-span-preserved : goal.loop-span-preserved
loop-span-preserved c = λ all are.
    zones_next c.put_zone.new.seen.keys (string_bytes c.put_zone.new.zones) all c.args.lines.now c.args.spans.now c.loop-span.span-index _ _ c.loop-span-test.true refl
    (subst (λ (p : List Mark). AreZones c.put_zone.new.seen.keys (string_bytes c.put_zone.new.zones) ((all ++ map written (parts_at c.args.lines.now (take c.loop-span.span-index c.args.spans.now))) ++ written p ∷ [])) c.part_at.ensures
    (c.in_ok-put_zone.ensures _ (c.loop-span.invariant all are)))
