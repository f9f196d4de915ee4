use Rattle.std.proofs.Common.{sym, refl}
use Rattle.config_settle.specs.Settling.{single_of}
use Rattle.config_settle.proofs.settling.single_of.Goals as goal

pub returns-in-Err : goal.returns-in-Err
unfolding single_of
returns-in-Err c = λ other. rw (sym c.text_or_none-text.ensures) (rw c.in_ok-path.ensures (rw (c.in-Err.ensures other) refl))
