use Rattle.std.proofs.Common.{inl}
use Rattle.vdirsyncer_cli.proofs.PlaceLaws.{back_one, back_two, told_back, told_two}
use Rattle.vdirsyncer_cli.proofs.opened.open_three.Goals as goal

pub returns-in-Err-open_dir-clause-starved : goal.returns-in-Err-open_dir-clause-starved
returns-in-Err-open_dir-clause-starved g c =
    let open_a = rw c.in-Ok-Some.field-0-is at c.in-Ok-Some.ensures.opened in
    back_one _ _ _ _ _ _ open_a.0 open_a.1 c.in-Err-open_dir.ensures.opened c.give_dir.ensures.given

pub returns-in-Err-open_dir-clause-stay_told : goal.returns-in-Err-open_dir-clause-stay_told
returns-in-Err-open_dir-clause-stay_told g c =
    let told_a = rw c.in-Ok-Some.field-0-is at c.in-Ok-Some.ensures.told in
    told_back _ _ _ _ _ _ told_a.0 told_a.1 c.in-Err-open_dir.ensures.told c.give_dir.ensures.told

pub returns-in-Err-open_dir-2-clause-starved : goal.returns-in-Err-open_dir-2-clause-starved
returns-in-Err-open_dir-2-clause-starved g c =
    let open_a = rw c.in-Ok-Some.field-0-is at c.in-Ok-Some.ensures.opened in
    let open_b = rw c.in-Ok-Some-open_dir.field-0-is at c.in-Ok-Some-open_dir.ensures.opened in
    back_two _ _ _ _ _ _ _ _ _ _ (λ same. c.requires.apart (inl same)) open_a.0 open_a.1 open_b.0 open_b.1 c.in-Err-open_dir-2.ensures.opened c.give_dir-in-Err-open_dir-2.ensures.given c.give_dir-in-Err-open_dir-2-2.ensures.given

pub returns-in-Err-open_dir-2-clause-stay_told : goal.returns-in-Err-open_dir-2-clause-stay_told
returns-in-Err-open_dir-2-clause-stay_told g c =
    let told_a = rw c.in-Ok-Some.field-0-is at c.in-Ok-Some.ensures.told in
    let told_b = rw c.in-Ok-Some-open_dir.field-0-is at c.in-Ok-Some-open_dir.ensures.told in
    told_two _ _ _ _ _ _ _ _ _ _ told_a.0 told_a.1 told_b.0 told_b.1 c.in-Err-open_dir-2.ensures.told c.give_dir-in-Err-open_dir-2.ensures.told c.give_dir-in-Err-open_dir-2-2.ensures.told
