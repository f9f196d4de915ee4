use Rattle.std.proofs.Common.{sym, ap, None, Some, arith}
use Rattle.std.proofs.lemmas.Grind.{common_steps}
use Rattle.outside.specs.FileMap.{files_of}
use Rattle.store_model.specs.Waits.{fits_at}
use Rattle.mem_store.proofs.ContentLemmas.{held_at}
use Rattle.mem_store.proofs.shelf.Shelf.has_etag.Goals as goal

pub returns-in_default : goal.returns-in_default
returns-in_default c = sym (ap (fits_at (Some c.args.tag.now)) (held_at (files_of c.args.self.now.files) c.args.href.now None (grind (arith, common_steps))))

pub returns : goal.returns
returns c =
    let at = held_at (files_of c.args.self.now.files) c.args.href.now (Some c.in-Some.bytes.now) (grind (arith, common_steps)) in
    rw at (grind (arith, common_steps))
