use Rattle.std.proofs.Common.{ℕ, List, Some, not, sym, ap, ◌∙◌}
use Rattle.config_ini.specs.declared.error.ConfigError.TheVariants.{Twice}
use Rattle.config_ini.specs.Flaws as spec
use Rattle.config_ini.specs.Repeats.{has}
use Rattle.config_ini.proofs.Before.{was_first, was_seen, key_first, key_twice, key_loose}
use Rattle.config_ini.proofs.flaws.Seen.with_key.Goals as goal

pub returns-in_default : goal.returns-in_default
returns-in_default c = λ other rest. key_loose (has c.args.self.sections.keys) (has c.args.self.keys.keys) c.args.self.at c.args.written.now rest c.in_default.is

pub returns-then-branch : goal.returns-then-branch
returns-then-branch c = λ rest.
    key_first (has c.args.self.sections.keys) (has c.args.self.keys.keys) (has c.is_first.new.seen.keys) c.args.self.at c.in-Some.section c.args.written.now rest c.in-Some.is
    (was_first c.in_ok-is_first.field-0 (has c.args.self.keys.keys c.args.written.now.key.name) (c.in_ok-is_first.ensures.first ∙ ap (λ (t : List ℕ). not (has c.args.self.keys.keys t)) c.as_str.ensures) c.if-branch.true)
    (c.in_ok-is_first.ensures.sees ∙ ap (λ (t : List ℕ). spec.also t (has c.args.self.keys.keys)) c.as_str.ensures)

pub returns-in_ok-key : goal.returns-in_ok-key
returns-in_ok-key c = λ other rest.
    key_twice (has c.args.self.sections.keys) (has c.args.self.keys.keys) c.args.self.at c.in-Some.section c.args.written.now rest c.in-Some.is
    (was_seen c.in_ok-is_first.field-0 (has c.args.self.keys.keys c.args.written.now.key.name) (c.in_ok-is_first.ensures.first ∙ ap (λ (t : List ℕ). not (has c.args.self.keys.keys t)) c.as_str.ensures) c.if-branch.false)
    ∙ ap (λ (k : List ℕ). Some (Twice c.in-Some.section k)) (sym (c.in_ok-key.ensures ∙ c.as_str-else-branch.ensures))
