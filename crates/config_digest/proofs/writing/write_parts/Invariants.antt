use Rattle.std.proofs.Common.{◌≡◌, ◌++◌, take}
use Rattle.std.specs.List.{flat_map}
use Rattle.config_digest.specs.Written.{part_tokens}
use Rattle.config_digest.proofs.writing.write_parts.Given as goal

abbrev pub invariant-loop-part : goal.invariant-loop-part
invariant-loop-part l = record {
  tokens : l.writer.tokens ≡ l.initial.writer.tokens ++ flat_map part_tokens (take l.part-index l.parts);
  before : l.writer.before ≡ l.initial.writer.before;
}
