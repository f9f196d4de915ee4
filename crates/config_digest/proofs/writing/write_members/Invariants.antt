use Rattle.std.proofs.Common.{◌≡◌, ◌++◌, take}
use Rattle.std.specs.List.{flat_map}
use Rattle.config_digest.specs.Written.{member_tokens}
use Rattle.config_digest.proofs.writing.write_members.Given as goal

abbrev pub invariant-loop-entry : goal.invariant-loop-entry
invariant-loop-entry l = record {
  tokens : l.writer.tokens ≡ l.initial.writer.tokens ++ flat_map (λ e. member_tokens e.now) (take l.entry-index l.entries);
  before : l.writer.before ≡ l.initial.writer.before;
}
