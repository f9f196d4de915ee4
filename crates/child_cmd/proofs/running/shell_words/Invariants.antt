use Rattle.std.proofs.Common.{◌≡◌, ◌∷◌, take}
use Rattle.std.specs.Prelude.{codes}
use Rattle.child_cmd.proofs.running.shell_words.Given as goal

-- the words so far
abbrev pub invariant-loop-word : goal.invariant-loop-word
invariant-loop-word l = l.words.items ≡ codes "sh" ∷ codes "-c" ∷ take l.word-index l.line
