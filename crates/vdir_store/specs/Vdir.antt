-- A folder seen as a side: the items are the files whose names say so, and what happens to them happens to the side (this project's own).
use Rattle.std.specs.Prelude.{ℕ, List, [], map, filter, Option, Some, None, if◌then◌else◌}
use Rattle.std.specs.Option.{option_map}
use Rattle.std.specs.List.{filter_map}
use Rattle.std.specs.FinMap as fin
use Rattle.outside.specs.Etag.{etag}
use Rattle.outside.specs.Files.{Files, FolderState}
use Rattle.outside.specs.declared.folder.FolderEvent.{FolderEvent}
use Rattle.outside.specs.declared.folder.FolderEvent.TheVariants as folder_event
use Rattle.store_model.specs.Sides.{Content, SideState}
use Rattle.store_model.specs.declared.event.Held.{Held}
use Rattle.store_model.specs.declared.event.StoreEvent.{StoreEvent}
use Rattle.store_model.specs.declared.event.StoreEvent.TheVariants.{Edited, Toggled, Wrote, Read}
use Rattle.vdir_store.specs.Names.{is_item}

-- what the store tells of a file with these bytes
abbrev pub held_of : List ℕ → Held
held_of bytes = record { etag = etag bytes; text = bytes }

abbrev pub held_entry : List ℕ × List ℕ → List ℕ × Held
held_entry file = (file.0, held_of file.1)

-- the items among the files
unfoldable pub content_of : List ℕ → Files → Content
content_of ending files = fin.from_sorted (map held_entry (filter (λ file. is_item ending file.0) (fin.entries files)))

-- what an event of the folder is to the side: nothing, where no item is touched
abbrev pub event_of : List ℕ → FolderEvent → Option StoreEvent
event_of ending (folder_event.Edited name old new) = if is_item ending name then Some (Edited name (option_map held_of old) (option_map held_of new)) else None
event_of ending (folder_event.Wrote name old new) = if is_item ending name then Some (Wrote name (option_map held_of old) (option_map held_of new) new) else None
event_of ending (folder_event.Read name bytes) = if is_item ending name then Some (Read name bytes) else None
event_of ending folder_event.Toggled = Some Toggled
event_of ending folder_event.Made = Some Toggled

-- what it leaves in the side's trail, and what among its reads
abbrev pub trail_of : List ℕ → FolderEvent → Option StoreEvent
trail_of ending (folder_event.Edited name old new) = event_of ending (folder_event.Edited name old new)
trail_of ending (folder_event.Wrote name old new) = event_of ending (folder_event.Wrote name old new)
trail_of ending (folder_event.Read name bytes) = None
trail_of ending folder_event.Toggled = Some Toggled
trail_of ending folder_event.Made = Some Toggled

abbrev pub read_in : List ℕ → FolderEvent → Option (List ℕ × List ℕ)
read_in ending (folder_event.Edited name old new) = None
read_in ending (folder_event.Wrote name old new) = None
read_in ending (folder_event.Read name bytes) = if is_item ending name then Some (name, bytes) else None
read_in ending folder_event.Toggled = None
read_in ending folder_event.Made = None

-- an own change of another file than an item, or of the folder itself, by its name
abbrev pub change_beside : List ℕ → FolderEvent → Option (List ℕ)
change_beside ending (folder_event.Edited name old new) = None
change_beside ending (folder_event.Wrote name old new) = if is_item ending name then None else Some name
change_beside ending (folder_event.Read name bytes) = None
change_beside ending folder_event.Toggled = None
change_beside ending folder_event.Made = Some []

-- the folder as a side
abbrev pub side_of : List ℕ → FolderState → SideState
side_of ending s = record { is_there = s.is_there; content = content_of ending s.files; trail = filter_map (trail_of ending) s.trail; reads = filter_map (read_in ending) s.trail; beside = filter_map (change_beside ending) s.trail }
