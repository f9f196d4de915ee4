use Rattle.std.proofs.Common.{◌∙◌}
use Rattle.outfits.proofs.PlacedLemmas.{placed_stand, placed_whole}
use Rattle.outfits.proofs.mem_outfit.MemOutfit.new.Goals as goal

pub returns-clause-places : goal.returns-clause-places
returns-clause-places c = placed_stand _ _ c.args.dirs.items c.of.result.slots.items (c.of.ensures.slots ∙ c.in_ok-slots.ensures) c.requires

pub returns-clause-whole : goal.returns-clause-whole
returns-clause-whole c = placed_whole _ _ c.args.dirs.items c.of.result.slots.items (c.of.ensures.slots ∙ c.in_ok-slots.ensures)
