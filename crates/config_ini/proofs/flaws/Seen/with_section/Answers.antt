use Rattle.std.proofs.Common.{ℕ, List, Some, not, sym, ap, ◌∙◌}
use Rattle.config_ini.specs.declared.error.ConfigError.TheVariants.{Twice}
use Rattle.config_ini.specs.Flaws as spec
use Rattle.config_ini.specs.Repeats.{has}
use Rattle.config_ini.proofs.Before.{was_first, was_seen, none_seen, section_first, section_twice}
use Rattle.config_ini.proofs.flaws.Seen.with_section.Goals as goal

pub returns-then-branch : goal.returns-then-branch
returns-then-branch c = λ rest.
    section_first (has c.args.self.sections.keys) (has c.args.self.keys.keys) (has c.is_first.new.seen.keys) (has c.new-keys.result.keys) c.args.self.at c.args.number c.args.title.now c.in_ok-name.name rest c.in_ok-name.ensures
    (was_first c.in_ok-is_first.field-0 (has c.args.self.sections.keys c.in_ok-name.name) (c.in_ok-is_first.ensures.first ∙ ap (λ (t : List ℕ). not (has c.args.self.sections.keys t)) c.as_str.ensures) c.if-branch.true)
    (c.in_ok-is_first.ensures.sees ∙ ap (λ (t : List ℕ). spec.also t (has c.args.self.sections.keys)) c.as_str.ensures)
    (none_seen c.new-keys.result.keys c.new-keys.ensures.empty)

pub returns : goal.returns
returns c = λ other rest.
    section_twice (has c.args.self.sections.keys) (has c.args.self.keys.keys) c.args.self.at c.args.number c.args.title.now c.in_ok-name.name rest c.in_ok-name.ensures
    (was_seen c.in_ok-is_first.field-0 (has c.args.self.sections.keys c.in_ok-name.name) (c.in_ok-is_first.ensures.first ∙ ap (λ (t : List ℕ). not (has c.args.self.sections.keys t)) c.as_str.ensures) c.if-branch.false)
    ∙ ap (λ (k : List ℕ). Some (Twice c.in_ok-name.name k)) (sym (c.of-key.ensures ∙ c.new-none.ensures.bytes))
