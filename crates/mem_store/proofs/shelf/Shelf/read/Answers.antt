use Rattle.std.proofs.Common.{refl, None, Some, arith}
use Rattle.std.proofs.lemmas.Grind.{common_steps}
use Rattle.outside.specs.FileMap.{files_of}
use Rattle.mem_store.proofs.ContentLemmas.{held_at, read_side}
use Rattle.mem_store.proofs.shelf.Shelf.read.Goals as goal

pub returns-in_default : goal.returns-in_default
returns-in_default c = (refl, held_at (files_of c.args.self.now.files) c.args.href.now None (grind (arith, common_steps)))

pub returns : goal.returns
returns c =
    let now = c.args.self.now in
    let bytes = c.into_vec-given.result.items in (
      held_at (files_of now.files) c.args.href.now (Some bytes) (grind (arith, common_steps)),
      read_side (files_of now.files) now.trail.items now.reads.items c.push.new.self.items c.args.href.now bytes (grind (arith, common_steps)),
    )
