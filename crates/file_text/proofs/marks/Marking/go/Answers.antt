use Rattle.std.proofs.Common.{inr, sym, ◌∙◌}
use Rattle.file_text.specs.Opened.{place_seen}
use Rattle.item_text.specs.Seen.{line_seen}
use Rattle.file_text.proofs.Marking.{walked, stopped}
use Rattle.file_text.proofs.marks.Marking.go.Goals as goal

pub returns-in-Some-clause-err : goal.returns-in-Some-clause-err
returns-in-Some-clause-err c =
    inr (λ count rest. stopped (line_seen c.args.line) (place_seen c.args.self.now.opened) _ _ c.trimmed-text.ensures c.kind_of-kind.ensures c.args.self.now.marks.items count rest c.in-Some.error (sym c.fault.ensures ∙ c.in-Some.is))

pub returns-clause-goes : goal.returns-clause-goes
returns-clause-goes c = λ count rest.
    walked (line_seen c.args.line) (place_seen c.args.self.now.opened) _ _ c.trimmed-text.ensures c.kind_of-kind.ensures c.args.self.now.marks.items c.put.new.marks.items (place_seen c.go.new.self) count rest
    (sym c.fault.ensures ∙ c.in_default.is) (c.in-Ok.ensures (place_seen c.args.self.now.opened) c.role-role.ensures) c.in-Ok-go.ensures.place
