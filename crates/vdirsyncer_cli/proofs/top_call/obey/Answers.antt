use Rattle.config_fetch.specs.Filling.{world}
use Rattle.vdirsyncer_cli.proofs.WordsLaws.{silent, wrong_run, help_run, refused_words}
use Rattle.vdirsyncer_cli.proofs.top_call.obey.Goals as goal

pub returns-in-Wrong-clause-run : goal.returns-in-Wrong-clause-run
returns-in-Wrong-clause-run g c =
    wrong_run _ _ _ _ _ (world c.args.outfit.now c.args.input.now c.args.err.now) c.args.what.now _ _ c.print.result c.in-Wrong.is (silent g.S.Sink.count g.S.Sink.tells g.S.Sink.held c.args.out.now) (rw c.usage.ensures at c.print.ensures.printed) c.print.ensures.not_starved

pub returns-in-Help-clause-run : goal.returns-in-Help-clause-run
returns-in-Help-clause-run g c =
    help_run _ _ _ _ _ (world c.args.outfit.now c.args.input.now c.args.err.now) c.args.what.now _ _ c.print-in-Help.result c.status_of_cut.result c.in-Help.is (rw c.usage-in-Help.ensures at c.print-in-Help.ensures.printed) (silent g.E.Sink.count g.E.Sink.tells g.E.Sink.held c.args.err.now) c.print-in-Help.ensures.not_starved c.status_of_cut.ensures

pub returns-in-Refused-clause-run : goal.returns-in-Refused-clause-run
returns-in-Refused-clause-run g c =
    refused_words _ _ _ _ _ (world c.args.outfit.now c.args.input.now c.args.err.now) c.args.what.now c.in-Refused.line _ _ c.print-in-Refused.result c.in-Refused.is (silent g.S.Sink.count g.S.Sink.tells g.S.Sink.held c.args.out.now) (rw c.as_str.ensures at c.print-in-Refused.ensures.printed) c.print-in-Refused.ensures.not_starved
