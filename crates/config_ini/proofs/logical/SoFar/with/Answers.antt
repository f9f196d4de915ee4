use Rattle.std.proofs.Common.{◌+◌, ◌++◌, Option, sym, ap, ◌∙◌}
use Rattle.config_ini.specs.declared.kinds.Written.{Written}
use Rattle.config_ini.specs.Seen.{from_here}
use Rattle.config_ini.proofs.Held.{passed_over, section_here, key_here, bad_here}
use Rattle.config_ini.proofs.logical.SoFar.with.Goals as goal

pub returns-in-Passed : goal.returns-in-Passed
returns-in-Passed c = λ rest. passed_over c.args.self.done.items c.args.self.held c.args.number c.args.text.now rest (sym c.in_ok-kind_of.ensures ∙ c.in-Passed.is)

pub returns-in_ok-next-in-Section : goal.returns-in_ok-next-in-Section
returns-in_ok-next-in-Section c = λ rest.
    ap (λ (o : Option Written). c.in_ok-next-in-Section.next.done.items ++ from_here o (c.args.number + 1) rest) c.in_ok-next-in-Section.ensures.1
    ∙ section_here c.args.self.done.items c.in_ok-next-in-Section.next.done.items c.args.self.held c.in-Section.title c.args.number c.args.text.now rest c.in_ok-next-in-Section.ensures.0 (sym c.in_ok-kind_of.ensures ∙ c.in-Section.is)

pub returns-in_ok-next-in-Key : goal.returns-in_ok-next-in-Key
returns-in_ok-next-in-Key c = λ rest.
    ap (λ (o : Option Written). c.in_ok-next-in-Key.next.done.items ++ from_here o (c.args.number + 1) rest) c.in_ok-next-in-Key.ensures.1
    ∙ key_here c.args.self.done.items c.in_ok-next-in-Key.next.done.items c.args.self.held c.in-Key.key c.in-Key.value c.args.number c.args.text.now rest c.in_ok-next-in-Key.ensures.0 (sym c.in_ok-kind_of.ensures ∙ c.in-Key.is)

pub returns-in_ok-next-in-Bad : goal.returns-in_ok-next-in-Bad
returns-in_ok-next-in-Bad c = λ rest.
    ap (λ (o : Option Written). c.in_ok-next-in-Bad.next.done.items ++ from_here o (c.args.number + 1) rest) c.in_ok-next-in-Bad.ensures.1
    ∙ bad_here c.args.self.done.items c.in_ok-next-in-Bad.next.done.items c.args.self.held c.args.number c.args.text.now rest c.in_ok-next-in-Bad.ensures.0 (sym c.in_ok-kind_of.ensures ∙ c.in-Bad.is)
