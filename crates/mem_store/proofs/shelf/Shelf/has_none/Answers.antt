use Rattle.std.proofs.Common.{sym, ap, None, Some, arith}
use Rattle.std.proofs.lemmas.Grind.{common_steps}
use Rattle.outside.specs.FileMap.{files_of}
use Rattle.store_model.specs.Waits.{fits_at}
use Rattle.mem_store.proofs.ContentLemmas.{held_at}
use Rattle.mem_store.proofs.shelf.Shelf.has_none.Goals as goal

pub returns-in-None : goal.returns-in-None
returns-in-None c = sym (ap (fits_at None) (held_at (files_of c.args.self.now.files) c.args.href.now None (grind (arith, common_steps))))

pub returns-in-Some : goal.returns-in-Some
returns-in-Some c = sym (ap (fits_at None) (held_at (files_of c.args.self.now.files) c.args.href.now (Some c.in-Some.field-0.now) (grind (arith, common_steps))))
