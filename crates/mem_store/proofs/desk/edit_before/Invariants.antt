use Rattle.std.proofs.Common.{List}
use Rattle.store_model.specs.Sides.{Evolves, IsOutside}
use Rattle.store_model.specs.Waits.{Change}
use Rattle.mem_store.specs.Memory.{side_of}
use Rattle.mem_store.specs.Desks.{IsDraft}
use Rattle.mem_store.proofs.desk.edit_before.Given as goal

-- the edits so far are edits from outside, and a draft that there is still is one
abbrev pub invariant-loop-edit : goal.invariant-loop-edit
invariant-loop-edit l = record {
  edits : Evolves IsOutside (side_of l.fn.shelf) (side_of l.shelf);
  draft : (w : List Change) → IsDraft w (side_of l.fn.shelf).content l.fn.draft → IsDraft w (side_of l.shelf).content l.draft;
}
