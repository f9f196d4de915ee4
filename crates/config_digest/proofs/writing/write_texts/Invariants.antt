use Rattle.std.proofs.Common.{◌≡◌, ◌++◌, take}
use Rattle.std.specs.List.{flat_map}
use Rattle.config_digest.specs.Written.{text_tokens}
use Rattle.config_digest.proofs.writing.write_texts.Given as goal

abbrev pub invariant-loop-text : goal.invariant-loop-text
invariant-loop-text l = record {
  tokens : l.writer.tokens ≡ l.initial.writer.tokens ++ flat_map text_tokens (take l.text-index l.texts);
  before : l.writer.before ≡ l.initial.writer.before;
}
