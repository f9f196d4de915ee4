use Rattle.std.proofs.Common.{arith}
use Rattle.std.proofs.lemmas.Grind.{common_steps}
use Rattle.std.specs.Prelude.{option_copied}
use Rattle.outside.specs.FileMap.{files_of}
use Rattle.mem_store.proofs.ContentLemmas.{wrote_side}
use Rattle.mem_store.proofs.shelf.Shelf.write.Goals as goal

pub returns-clause-ok : goal.returns-clause-ok
returns-clause-ok c =
    let now = c.args.self.now in
    let kept = c.in_ok-kept.kept in
    wrote_side (files_of now.files) (files_of c.set.new.files) now.trail.items c.push.new.self.items now.reads.items c.args.href.now kept.old (option_copied c.args.new)
    c.in_ok-kept.ensures.old c.in_ok-set.ensures.ok (grind (arith, common_steps))
