use Rattle.std.proofs.Common.{◌+◌, ◌++◌, Option, ap, ◌∙◌}
use Rattle.config_ini.specs.declared.kinds.Written.{Written}
use Rattle.config_ini.specs.Seen.{from_here}
use Rattle.config_ini.proofs.Held.{bad_continued, more_continued}
use Rattle.config_ini.proofs.logical.SoFar.continued.Goals as goal

pub returns-in_ok-next-in-None : goal.returns-in_ok-next-in-None
returns-in_ok-next-in-None c = λ rest h.
    ap (λ (o : Option Written). c.in_ok-next-in-None.next.done.items ++ from_here o (c.args.number + 1) rest) c.in_ok-next-in-None.ensures.1
    ∙ bad_continued c.args.self.done.items c.in_ok-next-in-None.next.done.items c.args.self.held c.args.number c.args.text.now rest c.in-None.is c.in_ok-next-in-None.ensures.0 h

pub returns-in_ok-with_more-in-Some : goal.returns-in_ok-with_more-in-Some
returns-in_ok-with_more-in-Some c = λ rest h.
    more_continued c.args.self.done.items c.args.self.held c.in-Some.field-0 c.in_ok-with_more-in-Some.field-0 c.args.number c.args.text.now rest c.in-Some.is c.in_ok-with_more-in-Some.ensures h
