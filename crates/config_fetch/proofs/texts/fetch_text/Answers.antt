use Rattle.config_fetch.proofs.FetchLemmas.{told_or_starved}
use Rattle.config_fetch.proofs.texts.fetch_text.Goals as goal

pub returns-in-Ok : goal.returns-in-Ok
returns-in-Ok g c = record {
  later_child = c.in-Ok.ensures.ran;
  later_input = c.in-Ok.ensures.read;
  later_err = c.in-Ok.ensures.wrote;
  cause = tt;
  others = c.in-Ok.ensures.others;
  program = c.in-Ok.ensures.program;
  line = c.in-Ok.ensures.answer;
  prompt = c.in-Ok.ensures.prompt;
}

pub returns-in-Err : goal.returns-in-Err
returns-in-Err g c =
    told_or_starved _ _ _ _ _ _ c.in-Err.error _
    (record {
      later_child = c.in-Err.ensures.ran;
      later_input = c.in-Err.ensures.read;
      later_err = c.in-Err.ensures.wrote;
      cause = c.in-Err.ensures.cause;
      others = c.in-Err.ensures.others;
      program = c.in-Err.ensures.program;
      line = c.in-Err.ensures.answer;
      prompt = c.in-Err.ensures.prompt;
    })
    c.told.ensures
