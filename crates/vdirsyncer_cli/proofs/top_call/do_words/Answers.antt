use Rattle.config_fetch.specs.Filling.{world}
use Rattle.vdirsyncer_cli.proofs.WordsLaws.{silent, starved_first}
use Rattle.vdirsyncer_cli.proofs.top_call.do_words.Goals as goal

pub returns-in-Err-clause-run : goal.returns-in-Err-clause-run
returns-in-Err-clause-run g c =
    starved_first _ _ _ _ _ (world c.args.outfit.now c.args.input.now c.args.err.now) _ _ _ _ (silent g.S.Sink.count g.S.Sink.tells g.S.Sink.held c.args.out.now) c.tell_starved.ensures
