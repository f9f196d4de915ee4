use Rattle.std.proofs.Common.{List, ℕ, sym, ap, ◌∙◌}
use Rattle.cli_words.specs.Arguments.{ArgumentsValue, arguments_value, said_with}
use Rattle.cli_words.proofs.ArgumentsLaws.{said_with-nothing, said_with-all_read, nothing_left}
use Rattle.cli_words.proofs.arguments.read_arguments.Goals as goal

pub loop-rest-init : goal.loop-rest-init
loop-rest-init c =
    ap (λ (v : ArgumentsValue). said_with c.args.command v c.args.words.now) c.new-read.ensures
    ∙ said_with-nothing c.args.command c.args.words.now

pub returns-clause-ok : goal.returns-clause-ok
returns-clause-ok c =
    sym c.loop-rest.invariant
    ∙ (ap (λ (ws : List (List ℕ)). said_with c.args.command (arguments_value c.loop-rest.read) ws) (nothing_left c.loop-rest.rest.now c.in_default.len_below)
    ∙ said_with-all_read c.args.command (arguments_value c.loop-rest.read))
