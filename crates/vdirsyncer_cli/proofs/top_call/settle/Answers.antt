use Rattle.std.proofs.Common.{refl}
use Rattle.vdirsyncer_cli.proofs.Endings.{chosen_may_run}
use Rattle.vdirsyncer_cli.proofs.SettlingLaws.{unread, unfilled, settled}
use Rattle.vdirsyncer_cli.proofs.WordsLaws.{still}
use Rattle.vdirsyncer_cli.proofs.top_call.settle.Goals as goal

pub returns-in-Err-clause-settles : goal.returns-in-Err-clause-settles
returns-in-Err-clause-settles g c = unread _ _ _ _ _ _ c.in-Err.refusal (rw c.as_slice.ensures at c.in-Err.ensures) (still _ _ _ refl refl refl)

pub returns-in-Ok-fill_texts-clause-settles : goal.returns-in-Ok-fill_texts-clause-settles
returns-in-Ok-fill_texts-clause-settles g c =
    settled _ _ _ _ _ _ c.in-Ok.config c.in-Ok-fill_texts.config c.chosen_jobs.result (rw c.as_slice.ensures at c.in-Ok.ensures)
    (rw c.as_slice-names.ensures at (rw c.home_of-home.ensures at c.in-Ok-fill_texts.ensures.fills))
    (rw c.as_slice-names.ensures at (rw c.home_of-home.ensures at c.chosen_jobs.ensures))

pub returns-in-Ok-fill_texts-clause-may_run : goal.returns-in-Ok-fill_texts-clause-may_run
returns-in-Ok-fill_texts-clause-may_run g c = chosen_may_run _ _ _ _ c.chosen_jobs.ensures

pub returns-in-Err-fill_texts-clause-settles : goal.returns-in-Err-fill_texts-clause-settles
returns-in-Err-fill_texts-clause-settles g c =
    unfilled _ _ _ _ _ _ c.in-Ok.config c.in-Err-fill_texts.refusal (rw c.as_slice.ensures at c.in-Ok.ensures)
    (rw c.as_slice-names.ensures at (rw c.home_of-home.ensures at c.in-Err-fill_texts.ensures.fills))
