use Rattle.std.proofs.Common.{◌≡◌, ◌++◌, map, take}
use Rattle.cli_words.specs.Options.{name_in}
use Rattle.cli_words.proofs.arguments.push_names.Given as goal

abbrev pub invariant-loop-word : goal.invariant-loop-word
invariant-loop-word l = l.names.items ≡ l.initial.names.items ++ map (name_in l.command) (take l.word-index l.words)
