use Rattle.store_model.proofs.Moments.{Evolves-refl, Evolves-trans}
use Rattle.mem_store.specs.Memory.{side_of}
use Rattle.mem_store.proofs.desk.edit_before.Goals as goal

pub loop-edit-init : goal.loop-edit-init
loop-edit-init c = record { edits = Evolves-refl (side_of c.args.shelf.now); draft = λ w h. h }

pub returns-in_err-edit_due-clause-edits : goal.returns-in_err-edit_due-clause-edits
returns-in_err-edit_due-clause-edits c = Evolves-trans c.loop-edit.invariant.edits c.edit_due.ensures.edits

pub returns-in_err-edit_due-clause-draft : goal.returns-in_err-edit_due-clause-draft
returns-in_err-edit_due-clause-draft c = λ w h. c.edit_due.ensures.draft w (c.loop-edit.invariant.draft w h)

pub loop-edit-preserved : goal.loop-edit-preserved
loop-edit-preserved c = record {
  edits = Evolves-trans c.loop-edit.invariant.edits c.edit_due.ensures.edits;
  draft = λ w h. c.edit_due.ensures.draft w (c.loop-edit.invariant.draft w h);
}
