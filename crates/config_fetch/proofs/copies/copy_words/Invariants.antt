use Rattle.std.proofs.Common.{◌≡◌, take}
use Rattle.config_fetch.proofs.copies.copy_words.Given as goal

-- what is copied so far
abbrev pub invariant-loop-word : goal.invariant-loop-word
invariant-loop-word l = l.copied.items ≡ take l.word-index l.words
