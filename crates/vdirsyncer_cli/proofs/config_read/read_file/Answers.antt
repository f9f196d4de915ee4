use Rattle.vdirsyncer_cli.proofs.config_read.read_file.Goals as goal

pub returns-in-Ok-Some-clause-step : goal.returns-in-Ok-Some-clause-step
returns-in-Ok-Some-clause-step g c =
    let answer = rw c.in-Ok-Some.field-0-is at c.in-Ok-Some.ensures.answer in
    record {
      later = c.read.ensures.changes.later;
      cause = λ is. absurd (cc);
      told = λ told.
          let at = answer told in
          record { moment = at.moment; edits = at.edits; does = rw c.of.ensures (record { stood = at.does.0; fits = at.does.1; was_read = at.does.2 }) };
    }

pub returns-in-Ok-None-clause-step : goal.returns-in-Ok-None-clause-step
returns-in-Ok-None-clause-step g c =
    let answer = rw c.in-Ok-None.field-0-is at c.in-Ok-None.ensures.answer in
    record {
      later = c.read.ensures.changes.later;
      cause = λ is. absurd (cc);
      told = λ told. let at = answer told in record { moment = at.moment; edits = at.edits; does = at.does };
    }

pub returns-in-Err-Fault-clause-step : goal.returns-in-Err-Fault-clause-step
returns-in-Err-Fault-clause-step g c =
    let answer = rw c.in-Err-Fault.field-0-is at c.in-Err-Fault.ensures.answer in
    let rose = rw c.in-Err-Fault.field-0-is at c.in-Err-Fault.ensures.cause in
    record {
      later = c.read.ensures.changes.later;
      cause = λ is. rose;
      told = λ told. let at = answer told in record { moment = at.moment; edits = at.edits; does = at.does };
    }

pub returns-in-Err-TooLong-clause-step : goal.returns-in-Err-TooLong-clause-step
returns-in-Err-TooLong-clause-step g c =
    let answer = rw c.in-Err-TooLong.field-0-is at c.in-Err-TooLong.ensures.answer in
    record {
      later = c.read.ensures.changes.later;
      cause = λ is. absurd (cc);
      told = λ told. let at = answer told in record { moment = at.moment; edits = at.edits; does = at.does };
    }

pub returns-in-Err-NoMemory-clause-step : goal.returns-in-Err-NoMemory-clause-step
returns-in-Err-NoMemory-clause-step g c =
    let answer = rw c.in-Err-NoMemory.field-0-is at c.in-Err-NoMemory.ensures.answer in
    record {
      later = c.read.ensures.changes.later;
      cause = λ is. absurd (cc);
      told = λ told. let at = answer told in record { moment = at.moment; edits = at.edits; does = at.does };
    }
