-- What the edits of a plan leave of a folder in memory (this project's own).
use Rattle.std.specs.Prelude.{ℕ, ◌==◌, List, [], ◌∷◌, if◌then◌else◌}
use Rattle.outside.specs.Files.{FolderState}
use Rattle.outside.specs.FolderCalls.{after_edit}
use Rattle.outside.specs.declared.plan.OutsideEdit.{OutsideEdit}

-- what an edit leaves, where it comes before this call
abbrev pub after_due : OutsideEdit → ℕ → FolderState → FolderState
after_due e call s = if e.before_call == call then after_edit s e.name e.new else s

-- what the edits that come before a call leave
abbrev pub after_edits : List OutsideEdit → ℕ → FolderState → FolderState
after_edits [] call s = s
after_edits (e ∷ es) call s = after_edits es call (after_due e call s)
