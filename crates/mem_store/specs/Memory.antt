-- What a store in memory holds and what has happened to it, seen as a side (this project's own).
use Rattle.std.specs.Prelude.{ℕ, true, List, [], ◌∷◌, ◌++◌, map, Option}
use Rattle.std.specs.Option.{option_map}
use Rattle.std.specs.FinMap as fin
use Rattle.outside.specs.Files.{Files}
use Rattle.outside.specs.FileMap.{files_of}
use Rattle.store_model.specs.Sides.{Content, SideState, happens}
use Rattle.store_model.specs.declared.event.StoreEvent.{StoreEvent}
use Rattle.store_model.specs.declared.event.StoreEvent.TheVariants as event
use Rattle.vdir_store.specs.Vdir.{held_of, held_entry}
use Rattle.mem_store.specs.declared.shelf.MemEvent.{MemEvent}
use Rattle.mem_store.specs.declared.shelf.MemEvent.TheVariants.{Edited, Wrote}
use Rattle.mem_store.specs.declared.shelf.MemRead.{MemRead}
use Rattle.mem_store.specs.declared.shelf.Shelf.{Shelf}

-- the texts as a content, each under the etag of its bytes
unfoldable pub content_of : Files → Content
content_of files = fin.from_sorted (map held_entry (fin.entries files))

abbrev pub event_of : MemEvent → StoreEvent
event_of (Edited href old new) = event.Edited href (option_map held_of old) (option_map held_of new)
event_of (Wrote href old new) = event.Wrote href (option_map held_of old) (option_map held_of new) new

abbrev pub read_of : MemRead → List ℕ × List ℕ
read_of r = (r.href, r.text)

-- the collection always counts as there, and nothing stands beside the items
abbrev pub side_at : Files → List MemEvent → List MemRead → SideState
side_at files trail reads = record { is_there = true; content = content_of files; trail = map event_of trail; reads = map read_of reads; beside = [] }

abbrev pub side_of : Shelf → SideState
side_of s = side_at (files_of s.files) s.trail.items s.reads.items

-- an own write, and an edit from outside, that leave this text or none
abbrev pub wrote : SideState → List ℕ → Option (List ℕ) → SideState
wrote s href new = happens s (event.Wrote href (fin.get s.content href) (option_map held_of new) new)

abbrev pub edited : SideState → List ℕ → Option (List ℕ) → SideState
edited s href new = happens s (event.Edited href (fin.get s.content href) (option_map held_of new))

-- a content to which nothing has happened
abbrev pub bare : Content → SideState
bare c = record { is_there = true; content = c; trail = []; reads = []; beside = [] }

-- what a draft comes to where it takes the place of what it was made of
abbrev pub joined : SideState → SideState → SideState
joined s t = record { is_there = t.is_there; content = t.content; trail = s.trail ++ t.trail; reads = s.reads; beside = s.beside }

-- `.vcf`, the ending of the names of new items
abbrev pub vcf_ending : List ℕ
vcf_ending = 46 ∷ 118 ∷ 99 ∷ 102 ∷ []

-- a collection of these texts, to which nothing has happened. Of several texts under one href the first counts
abbrev pub is_new : List (List ℕ × List ℕ) → SideState
is_new items = bare (content_of (fin.from_entries items))
