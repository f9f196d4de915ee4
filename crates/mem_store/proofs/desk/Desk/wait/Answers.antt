use Rattle.std.proofs.Common.{◌≡◌, refl, sym, ap, ◌∙◌, [], ◌∷◌, ◌++◌, map, arith}
use Rattle.std.proofs.lemmas.Grind.{common_steps}
use Rattle.std.specs.Prelude.{option_copied}
use Rattle.std.specs.declared.vec.Vec.{Vec}
use Rattle.std.specs.declared.alloc.Global.{Global}
use Rattle.store_model.specs.Sides.{SideState}
use Rattle.vdir_store.specs.VdirCalls.{change_of}
use Rattle.mem_store.specs.Desks.{pending_change, waiting_of, desk_side}
use Rattle.mem_store.specs.declared.desk.Pending.{Pending}
use Rattle.mem_store.proofs.DraftLemmas.{same_draft}
use Rattle.mem_store.proofs.desk.Desk.wait.Goals as goal

pub returns-in_err-extend-clause-sound : goal.returns-in_err-extend-clause-sound
returns-in_err-extend-clause-sound c = λ sound.
    let s = c.args.self.now in
    let m = c.start_draft.new.self in
    let t = c.make_room.new.self in
    let w : waiting_of s ≡ waiting_of m = sym (ap (λ (v : Vec Pending Global). map pending_change v.items) c.start_draft.ensures.waiting) in
    let k : (desk_side s).content ≡ (desk_side m).content = sym (ap (λ (x : SideState). x.content) c.start_draft.ensures.side) in
    let at = same_draft (waiting_of m) (waiting_of s) (desk_side m).content (desk_side s).content m.draft t.draft w k c.make_room.ensures.draft (c.start_draft.ensures.sound sound) in
    let items : c.reserve.new.self.items ≡ s.waiting.items = grind (arith, common_steps) in
    same_draft (waiting_of s) (map pending_change c.reserve.new.self.items) (desk_side s).content (desk_side t).content c.extend.new.draft c.extend.new.draft
    (ap (map pending_change) items) (ap (λ (x : SideState). x.content) (c.make_room.ensures.side ∙ c.start_draft.ensures.side)) refl (c.in_err-extend.ensures.err (waiting_of s) (desk_side s).content at)

pub returns-clause-sound : goal.returns-clause-sound
returns-clause-sound c = λ sound.
    let s = c.args.self.now in
    let m = c.start_draft.new.self in
    let t = c.make_room.new.self in
    let change = change_of c.args.href.now c.args.expect (option_copied c.args.new) in
    let w : waiting_of s ≡ waiting_of m = sym (ap (λ (v : Vec Pending Global). map pending_change v.items) c.start_draft.ensures.waiting) in
    let k : (desk_side s).content ≡ (desk_side m).content = sym (ap (λ (x : SideState). x.content) c.start_draft.ensures.side) in
    let at = same_draft (waiting_of m) (waiting_of s) (desk_side m).content (desk_side s).content m.draft t.draft w k c.make_room.ensures.draft (c.start_draft.ensures.sound sound) in
    let more : map pending_change c.push.new.self.items ≡ waiting_of s ++ change ∷ [] = grind (arith, common_steps) in
    same_draft (waiting_of s ++ change ∷ []) (map pending_change c.push.new.self.items) (desk_side s).content (desk_side t).content c.extend.new.draft c.extend.new.draft
    more (ap (λ (x : SideState). x.content) (c.make_room.ensures.side ∙ c.start_draft.ensures.side)) refl (c.in_ok-extend.ensures.ok (waiting_of s) (desk_side s).content at)
