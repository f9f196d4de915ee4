-- The texts as a content, and how they change.
use Rattle.std.proofs.Common.{◌≡◌, ℕ, true, false, cond, List, [], ◌∷◌, ◌++◌, map, Option, refl, sym, ap, ◌∙◌, subst}
use Rattle.std.specs.Prelude.{T}
use Rattle.std.specs.Option.{option_map}
use Rattle.std.specs.Ordering.{nat_cmp, eq_by_cmp}
use Rattle.std.specs.Cmp.Lexicographic.{slice_cmp}
use Rattle.std.specs.FinMap as fin
use Rattle.std.specs.FinMap.Entries.{is_sorted}
use Rattle.std.proofs.lemmas.List.{map-append}
use Rattle.outside.specs.Files.{Files, put_file}
use Rattle.store_model.specs.Sides as sides
use Rattle.store_model.specs.Sides.{Content, SideState, put_held}
use Rattle.store_model.specs.declared.event.StoreEvent.TheVariants as event
use Rattle.vdir_store.specs.Vdir.{held_of, held_entry}
use Rattle.vdir_store.proofs.ContentLemmas.{sorted-held, find-held, get-put_file, get-put_held, same_contents}
use Rattle.mem_store.specs.declared.shelf.MemEvent.{MemEvent}
use Rattle.mem_store.specs.declared.shelf.MemEvent.TheVariants.{Edited, Wrote}
use Rattle.mem_store.specs.declared.shelf.MemRead.{MemRead}
use Rattle.mem_store.specs.Memory.{content_of, event_of, read_of, side_at, wrote, edited}

texts_sorted : (files : Files) → T (is_sorted (slice_cmp nat_cmp) (map held_entry (fin.entries files)))
texts_sorted files = subst T (sym (sorted-held (fin.entries files))) (fin.entries_sorted files)

-- the items in byte order of hrefs
pub entries-content_of : (files : Files) → fin.entries (content_of files) ≡ map held_entry (fin.entries files)
unfolding content_of
entries-content_of files = fin.entries-from_sorted (slice_cmp nat_cmp) _ (texts_sorted files)

-- what stands at an href
pub get-content_of : (files : Files) (q : List ℕ) → fin.get (content_of files) q ≡ option_map held_of (fin.get files q)
unfolding content_of
get-content_of files q =
    fin.get-from_sorted (slice_cmp nat_cmp) _ q (texts_sorted files)
    ∙ find-held q (fin.entries files)
    ∙ ap (option_map held_of) (sym (fin.get-entries files q))

-- the change of a text is a change of the content
pub content_of-put : (files : Files) (href : List ℕ) (new : Option (List ℕ)) → content_of (put_file files href new) ≡ put_held (content_of files) href (option_map held_of new)
content_of-put files href new = same_contents _ _ (λ q.
    get-content_of (put_file files href new) q
    ∙ ap (option_map held_of) (get-put_file files href new q)
    ∙ elim (eq_by_cmp (slice_cmp nat_cmp) q href) as (λ b. option_map held_of (cond b new (fin.get files q)) ≡ cond b (option_map held_of new) (fin.get (content_of files) q)) [
      | true ↦ refl
      | false ↦ sym (get-content_of files q)
    ]
    ∙ sym (get-put_held (content_of files) href (option_map held_of new) q))

-- ---- what one change leaves of the side

pub wrote_side : (files files' : Files) (trail trail' : List MemEvent) (reads : List MemRead) (href : List ℕ) (old new : Option (List ℕ)) → old ≡ fin.get files href → files' ≡ put_file files href new → trail' ≡ trail ++ Wrote href old new ∷ [] → side_at files' trail' reads ≡ wrote (side_at files trail reads) href new
wrote_side files files' trail trail' reads href old new was put more =
    let k : content_of files' ≡ put_held (content_of files) href (option_map held_of new) = ap content_of put ∙ content_of-put files href new in
    let stood : option_map held_of old ≡ fin.get (content_of files) href = ap (option_map held_of) was ∙ sym (get-content_of files href) in
    let t : map event_of trail' ≡ map event_of trail ++ event.Wrote href (fin.get (content_of files) href) (option_map held_of new) new ∷ [] =
    ap (map event_of) more ∙ map-append event_of trail (Wrote href old new ∷ []) ∙ ap (λ o. map event_of trail ++ event.Wrote href o (option_map held_of new) new ∷ []) stood in
    λ i. record { is_there = true; content = k i; trail = t i; reads = map read_of reads; beside = [] }

pub edited_side : (files files' : Files) (trail trail' : List MemEvent) (reads : List MemRead) (href : List ℕ) (old new : Option (List ℕ)) → old ≡ fin.get files href → files' ≡ put_file files href new → trail' ≡ trail ++ Edited href old new ∷ [] → side_at files' trail' reads ≡ edited (side_at files trail reads) href new
edited_side files files' trail trail' reads href old new was put more =
    let k : content_of files' ≡ put_held (content_of files) href (option_map held_of new) = ap content_of put ∙ content_of-put files href new in
    let stood : option_map held_of old ≡ fin.get (content_of files) href = ap (option_map held_of) was ∙ sym (get-content_of files href) in
    let t : map event_of trail' ≡ map event_of trail ++ event.Edited href (fin.get (content_of files) href) (option_map held_of new) ∷ [] =
    ap (map event_of) more ∙ map-append event_of trail (Edited href old new ∷ []) ∙ ap (λ o. map event_of trail ++ event.Edited href o (option_map held_of new) ∷ []) stood in
    λ i. record { is_there = true; content = k i; trail = t i; reads = map read_of reads; beside = [] }

pub read_side : (files : Files) (trail : List MemEvent) (reads reads' : List MemRead) (href bytes : List ℕ) → reads' ≡ reads ++ record { href = href; text = bytes } ∷ [] → side_at files trail reads' ≡ sides.happens (side_at files trail reads) (event.Read href bytes)
read_side files trail reads reads' href bytes more =
    let r : map read_of reads' ≡ map read_of reads ++ (href, bytes) ∷ [] = ap (map read_of) more ∙ map-append read_of reads (record { href = href; text = bytes } ∷ []) in
    λ i. record { is_there = true; content = content_of files; trail = map event_of trail; reads = r i; beside = [] }

-- the text and the etag that stand at an href
pub held_at : (files : Files) (href : List ℕ) (o : Option (List ℕ)) → fin.get files href ≡ o → fin.get (content_of files) href ≡ option_map held_of o
held_at files href o e = get-content_of files href ∙ ap (option_map held_of) e
