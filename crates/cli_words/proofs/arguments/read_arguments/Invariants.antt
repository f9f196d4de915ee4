use Rattle.std.proofs.Common.{◌≡◌, false, length}
use Rattle.cli_words.specs.Arguments.{arguments_of, arguments_value, said_with}
use Rattle.cli_words.proofs.arguments.read_arguments.Given as goal

abbrev pub invariant-loop-rest : goal.invariant-loop-rest
invariant-loop-rest l = said_with l.command (arguments_value l.read) l.rest ≡ arguments_of l.command false l.words

abbrev pub decreases-loop-rest : goal.decreases-loop-rest
decreases-loop-rest l = length l.rest
