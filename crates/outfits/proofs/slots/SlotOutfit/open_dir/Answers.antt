use Rattle.std.proofs.Common.{◌∙◌, sym, ap, subst, None, Some}
use Rattle.outfits.specs.Places.{Place, place_by}
use Rattle.outfits.specs.Slots.{place_held, places_of, told_held}
use Rattle.outfits.proofs.SlotLemmas.{held-absent, held-at, held-set, held-push, path_at, places_change, taken_told, same_from_changes}
use Rattle.outfits.proofs.slots.SlotOutfit.open_dir.Goals as goal

pub returns-in-Ok-push-clause-opened : goal.returns-in-Ok-push-clause-opened
returns-in-Ok-push-clause-opened g c =
    let f = place_by g.D.Folder.count g.D.Folder.state in
    let b = g.M.Blank.blank_place in
    let old = c.args.self.now.slots.items in
    let absent = rw c.deref.ensures.value at c.in-None.ensures.absent in
    (ap (λ o. place_held f b o) (held-absent old c.args.path.now absent) ∙ ap (λ (p : Place). Some p) (sym c.in-Ok.ensures.place), rw c.in-Ok-push.ensures.items (places_change f b old _ c.args.path.now None (held-push old c.args.path.now _ absent c.in-Ok-copy_of.ensures)))

pub returns-in-Ok-push-clause-told : goal.returns-in-Ok-push-clause-told
returns-in-Ok-push-clause-told g c =
    let old = c.args.self.now.slots.items in
    let absent = rw c.deref.ensures.value at c.in-None.ensures.absent in
    (λ t. c.in-Ok.ensures.told (subst (λ o. told_held g.D.Folder.tells g.M.Blank.blank_tells o) (held-absent old c.args.path.now absent) t), rw c.in-Ok-push.ensures.items (taken_told g.D.Folder.tells g.M.Blank.blank_tells old _ c.args.path.now (held-push old c.args.path.now _ absent c.in-Ok-copy_of.ensures)))

pub returns-in-Some-take-clause-opened : goal.returns-in-Some-take-clause-opened
returns-in-Some-take-clause-opened g c =
    let f = place_by g.D.Folder.count g.D.Folder.state in
    let b = g.M.Blank.blank_place in
    let old = c.args.self.now.slots.items in
    let s = c.index_mut-slot.result.now in
    let h = rw c.deref.ensures.value at c.in-Some.ensures.found in
    let path = path_at old c.args.path.now c.in-Some.i s h c.index_mut-slot.ensures.value in
    let held = held-at old c.args.path.now c.in-Some.i s h c.index_mut-slot.ensures.value ∙ ap (λ o. Some o) (sym c.in-Some-take.ensures.value) in
    (ap (λ o. place_held f b o) held, rw c.in-Some-take.ensures.after (places_change f b old _ c.args.path.now None (held-set old c.args.path.now c.in-Some.i (record { path = s.path; held = None }) h path)))

pub returns-in-Some-take-clause-told : goal.returns-in-Some-take-clause-told
returns-in-Some-take-clause-told g c =
    let old = c.args.self.now.slots.items in
    let s = c.index_mut-slot.result.now in
    let h = rw c.deref.ensures.value at c.in-Some.ensures.found in
    let path = path_at old c.args.path.now c.in-Some.i s h c.index_mut-slot.ensures.value in
    let held = held-at old c.args.path.now c.in-Some.i s h c.index_mut-slot.ensures.value ∙ ap (λ o. Some o) (sym c.in-Some-take.ensures.value) in
    (λ t. subst (λ o. told_held g.D.Folder.tells g.M.Blank.blank_tells o) held t, rw c.in-Some-take.ensures.after (taken_told g.D.Folder.tells g.M.Blank.blank_tells old _ c.args.path.now (held-set old c.args.path.now c.in-Some.i (record { path = s.path; held = None }) h path)))

pub returns-in-None-take-clause-opened : goal.returns-in-None-take-clause-opened
returns-in-None-take-clause-opened g c =
    let f = place_by g.D.Folder.count g.D.Folder.state in
    let b = g.M.Blank.blank_place in
    let old = c.args.self.now.slots.items in
    let s = c.index_mut-slot.result.now in
    let h = rw c.deref.ensures.value at c.in-Some.ensures.found in
    let path = path_at old c.args.path.now c.in-Some.i s h c.index_mut-slot.ensures.value in
    let held = held-at old c.args.path.now c.in-Some.i s h c.index_mut-slot.ensures.value ∙ ap (λ o. Some o) (sym c.in-None-take.ensures.value) in
    let out = ap (λ o. place_held f b o) held in
    (out, rw c.in-None-take.ensures.after (same_from_changes (places_of f b old) _ c.args.path.now None out (places_change f b old _ c.args.path.now None (held-set old c.args.path.now c.in-Some.i (record { path = s.path; held = None }) h path))))
