use Rattle.std.proofs.Common.{◌≡◌, ◌≤◌, drop}
use Rattle.cli_words.specs.Options.{workers_from}
use Rattle.cli_words.proofs.options.workers_of.Given as goal

abbrev pub invariant-loop-digit : goal.invariant-loop-digit
invariant-loop-digit l = (l.number ≤ 64) × (workers_from l.number (drop l.digit-index l.digits) ≡ workers_from 0 l.digits)
