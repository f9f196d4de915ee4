use Rattle.config_fetch.specs.Filling.{world}
use Rattle.vdirsyncer_cli.proofs.CleanLaws.{promised_run}
use Rattle.vdirsyncer_cli.proofs.SettlingLaws.{keeps_plain}
use Rattle.vdirsyncer_cli.proofs.top_call.run_words.Goals as goal

pub returns-clause-promised : goal.returns-clause-promised
returns-clause-promised g c =
    promised_run g.S.Sink.count g.S.Sink.tells g.S.Sink.held c.args.out.now c.do_words.new.out g.E.Sink.count g.E.Sink.tells g.E.Sink.held c.do_words.new.err _ _ _ _ _ (world c.args.outfit.now c.args.input.now c.args.err.now) _ _ _ c.do_words.result (keeps_plain _ _ _ _ _) c.do_words.ensures.run
