-- The exit status of a command by the reports of its jobs (this project's own).
use Rattle.std.specs.Prelude.{◌&&◌, not, if◌then◌else◌, ℕ, Bool, true, false, List, []}
use Rattle.std.specs.List.{list_all, list_any}
use Rattle.sync_plan.specs.declared.report.Line.{Line}
use Rattle.sync_plan.specs.declared.report.JobEnd.{JobEnd}
use Rattle.sync_plan.specs.declared.report.JobEnd.TheVariants as ended
use Rattle.sync_plan.specs.declared.report.Report.{Report}

abbrev pub is_starved_end : JobEnd → Bool
is_starved_end ended.NoMemory = true
is_starved_end _ = false

-- want of memory ended the job
abbrev pub is_starved : Report → Bool
is_starved report = is_starved_end report.end

abbrev pub is_synced_end : JobEnd → List Line → Bool
is_synced_end ended.Synced [] = true
is_synced_end _ _ = false

-- the job is in sync without lines
abbrev pub is_clean : Report → Bool
is_clean report = is_synced_end report.end report.lines.items

-- 3 where want of memory ended a job; else 0 where each job is in sync without lines and no write failed; else 1
abbrev pub exit_status : List Report → Bool → ℕ
exit_status reports write_fault =
    if list_any is_starved reports then 3
    else (if list_all is_clean reports && not write_fault then 0 else 1)
