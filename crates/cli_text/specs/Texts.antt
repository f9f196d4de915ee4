-- What is printed of a job (this project's own).
use Rattle.std.specs.Prelude.{ℕ, List, [], ◌++◌, codes}
use Rattle.std.specs.List.{flat_map}
use Rattle.std.specs.Fmt.{decimal}
use Rattle.item_text.specs.declared.item.ItemError.{ItemError}
use Rattle.item_text.specs.declared.item.ItemError.TheVariants as item
use Rattle.store_model.specs.declared.store.StoreError.{StoreError}
use Rattle.store_model.specs.declared.store.StoreError.TheVariants as store
use Rattle.status_keeper.specs.declared.keeper.KeeperError.{KeeperError}
use Rattle.status_keeper.specs.declared.keeper.KeeperError.TheVariants as keeper
use Rattle.sync_plan.specs.declared.report.Side.{Side}
use Rattle.sync_plan.specs.declared.report.Side.TheVariants.{A, B}
use Rattle.sync_plan.specs.declared.report.What.{What}
use Rattle.sync_plan.specs.declared.report.What.TheVariants.{Conflict, NotWritten, NotRemoved, Skipped}
use Rattle.sync_plan.specs.declared.report.Line.{Line}
use Rattle.sync_plan.specs.declared.report.Refusal.{Refusal}
use Rattle.sync_plan.specs.declared.report.Refusal.TheVariants as refusal
use Rattle.sync_plan.specs.declared.report.JobEnd.{JobEnd}
use Rattle.sync_plan.specs.declared.report.JobEnd.TheVariants as ended
use Rattle.sync_plan.specs.declared.report.Report.{Report}
use Rattle.cli_text.specs.Quoting.{in_quotes}

-- JOB: TEXT, ended by a line feed
unfoldable pub line_of : List ℕ → List ℕ → List ℕ
line_of job text = job ++ codes ": " ++ text ++ codes "\n"

abbrev pub side_letter : Side → List ℕ
side_letter A = codes "a"
side_letter B = codes "b"

abbrev pub item_error_text : ItemError → List ℕ
item_error_text item.TooLong = codes "too long"
item_error_text (item.NotUtf8 place) = codes "not UTF-8 at byte " ++ decimal place
item_error_text (item.NoComponent line) = codes "no component at line " ++ decimal line
item_error_text (item.Unbalanced line) = codes "unbalanced at line " ++ decimal line
item_error_text (item.Extra line) = codes "text outside the component at line " ++ decimal line
item_error_text (item.LongUid line) = codes "long UID at line " ++ decimal line
item_error_text (item.TwoUids line) = codes "several UIDs at line " ++ decimal line
item_error_text item.NoMemory = codes "out of memory"

abbrev pub store_error_text : StoreError → List ℕ
store_error_text store.Fault = codes "fault"
store_error_text store.Moved = codes "moved"
store_error_text store.TooLong = codes "too long"
store_error_text store.TooMany = codes "too many items"
store_error_text store.NotThere = codes "not there"
store_error_text (store.Vanished href) = in_quotes href ++ codes " has vanished"
store_error_text (store.BadItem href error) = in_quotes href ++ codes ": " ++ item_error_text error
store_error_text store.NoMemory = codes "out of memory"

abbrev pub keeper_error_text : KeeperError → List ℕ
keeper_error_text keeper.Fault = codes "fault"
keeper_error_text keeper.Moved = codes "moved"
keeper_error_text (keeper.Damaged row) = codes "damaged " ++ decimal row
keeper_error_text keeper.TooLong = codes "too long"
keeper_error_text keeper.NoMemory = codes "out of memory"

abbrev pub what_text : What → List ℕ
what_text Conflict = codes "conflict, both sides changed"
what_text (NotWritten side error) = codes "not written to " ++ side_letter side ++ codes ": " ++ store_error_text error
what_text (NotRemoved side error) = codes "not removed from " ++ side_letter side ++ codes ": " ++ store_error_text error
what_text Skipped = codes "removal skipped after a failed write"

-- what a line of a report says of its ident
unfoldable pub ident_line : List ℕ → Line → List ℕ
ident_line job line = line_of job (in_quotes line.ident ++ codes ": " ++ what_text line.what)

abbrev pub refusal_text : Refusal → List ℕ
refusal_text refusal.SameLocation = codes "two of its places are the same"
refusal_text (refusal.Status error) = codes "status: " ++ keeper_error_text error
refusal_text (refusal.Storage side error) = codes "storage " ++ side_letter side ++ codes ": " ++ store_error_text error
refusal_text (refusal.SameIdent side ident first second) =
    codes "storage " ++ side_letter side ++ codes " has " ++ in_quotes ident ++ codes " twice, in " ++ in_quotes first ++ codes " and " ++ in_quotes second
refusal_text (refusal.StorageEmpty side) = codes "storage " ++ side_letter side ++ codes " is empty, use --force-delete to go on"

abbrev pub end_text : List ℕ → JobEnd → List ℕ
end_text job ended.Synced = []
end_text job (ended.Refused reason) = line_of job (codes "refused: " ++ refusal_text reason)
end_text job (ended.NotFlushed side error) = line_of job (codes "storage " ++ side_letter side ++ codes " not written: " ++ store_error_text error)
end_text job (ended.NotCommitted error) = line_of job (codes "status not written: " ++ keeper_error_text error)
end_text job ended.NoMemory = line_of job (codes "out of memory")

-- the lines of a report in their order, then its end; nothing for a job that is in sync without lines
unfoldable pub report_text : List ℕ → Report → List ℕ
report_text job report = flat_map (ident_line job) report.lines.items ++ end_text job report.end
