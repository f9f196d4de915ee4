use Rattle.vdirsyncer_cli.proofs.PlaceLaws.{told_back}
use Rattle.vdirsyncer_cli.proofs.ConfigLaws.{read_and_back, read_named, not_read}
use Rattle.vdirsyncer_cli.proofs.config_read.read_through.Goals as goal

pub returns-in-Err-clause-read : goal.returns-in-Err-clause-read
returns-in-Err-clause-read g c = not_read _ _ _ _ _ c.in-Err.ensures.opened

pub returns-clause-read : goal.returns-clause-read
returns-clause-read g c =
    let opened = rw c.in-Ok-Some.field-0-is at c.in-Ok-Some.ensures.opened in
    let told = rw c.in-Ok-Some.field-0-is at c.in-Ok-Some.ensures.told in
    read_named _ _ _ _ _ _ _ _ c.folder_of-folder.ensures c.name_of.ensures
    (read_and_back _ _ _ _ _ _ _ _ _ _ opened.0 opened.1 c.give_dir.ensures.given told.0 c.read_file-bytes.ensures.step)

pub returns-clause-stay_told : goal.returns-clause-stay_told
returns-clause-stay_told g c =
    let told = rw c.in-Ok-Some.field-0-is at c.in-Ok-Some.ensures.told in
    told_back _ _ _ _ _ _ (λ at. c.read_file-bytes.ensures.told (told.0 at)) told.1 (λ q h. h) c.give_dir.ensures.told
