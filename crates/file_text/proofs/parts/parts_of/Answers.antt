use Rattle.std.proofs.Common.{refl, ap, List}
use Rattle.file_text.specs.Parts.{parts_of}
use Rattle.file_text.specs.Spans.{parts_at}
use Rattle.file_text.specs.declared.parts.Span.{Span}
use Rattle.file_text.proofs.Cutting.{put_more}
use Rattle.file_text.proofs.parts.parts_of.Goals as goal

pub loop-span-init : goal.loop-span-init
unfolding parts_of
loop-span-init c = ap (λ (xs : List Span). parts_at c.args.lines.now xs) c.new-found.ensures.items

pub loop-span-preserved : goal.loop-span-preserved
loop-span-preserved c =
    put_more c.args.kind c.args.lines.now c.args.spans.now c.loop-span.found.items c.put.new.found.items c.loop-span.span-index _ _ c.loop-span-test.true refl c.loop-span.invariant c.in_ok-put.ensures
