use Rattle.std.proofs.Common.{sym, refl}
use Rattle.config_settle.specs.Settling.{vdir_of}
use Rattle.config_settle.proofs.settling.vdir_of.Goals as goal

pub returns-in-Err : goal.returns-in-Err
unfolding vdir_of
returns-in-Err c = λ other. rw (sym c.text_or_none-text.ensures) (rw c.in_ok-path.ensures (rw (sym c.text_or_none-ends.ensures) (rw c.in_ok-ending.ensures (rw (c.in-Err.ensures other) refl))))
