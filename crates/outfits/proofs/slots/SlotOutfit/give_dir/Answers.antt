use Rattle.std.proofs.Common.{◌≡◌, Some, ap}
use Rattle.outfits.specs.Places.{place_by}
use Rattle.outfits.specs.Slots.{place_held, places_of}
use Rattle.outfits.proofs.SlotLemmas.{held-absent, held-set, path_at, places_change, given_told}
use Rattle.outfits.proofs.slots.SlotOutfit.give_dir.Goals as goal

pub unreachable-requires : goal.unreachable-requires
unreachable-requires g c =
    let f = place_by g.D.Folder.count g.D.Folder.state in
    let b = g.M.Blank.blank_place in
    let old = c.args.self.now.slots.items in
    let absent = rw c.deref.ensures.value at c.in-None.ensures.absent in
    let stands : places_of f b old c.args.path.now ≡ Some b = ap (λ o. place_held f b o) (held-absent old c.args.path.now absent) in
    cc (stands, c.requires)

pub returns-clause-given : goal.returns-clause-given
returns-clause-given g c =
    let f = place_by g.D.Folder.count g.D.Folder.state in
    let old = c.args.self.now.slots.items in
    let s = c.index_mut-slot.result.now in
    let h = rw c.deref.ensures.value at c.in-Some.ensures.found in
    let path = path_at old c.args.path.now c.in-Some.i s h c.index_mut-slot.ensures.value in
    places_change f g.M.Blank.blank_place old _ c.args.path.now (Some c.args.dir) (held-set old c.args.path.now c.in-Some.i (record { path = s.path; held = Some c.args.dir }) h path)

pub returns-clause-told : goal.returns-clause-told
returns-clause-told g c =
    let old = c.args.self.now.slots.items in
    let s = c.index_mut-slot.result.now in
    let h = rw c.deref.ensures.value at c.in-Some.ensures.found in
    let path = path_at old c.args.path.now c.in-Some.i s h c.index_mut-slot.ensures.value in
    given_told g.D.Folder.tells g.M.Blank.blank_tells old _ c.args.path.now c.args.dir (held-set old c.args.path.now c.in-Some.i (record { path = s.path; held = Some c.args.dir }) h path)
