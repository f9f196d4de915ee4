use Rattle.std.proofs.Common.{List, ℕ, refl}
use Rattle.std.specs.Ordering.{nat_cmp}
use Rattle.std.specs.Cmp.Lexicographic.{slice_cmp}
use Rattle.std.specs.BTreeMap.{get}
use Rattle.config_ini.specs.declared.kinds.SectionKind.TheVariants.{General, Pair}
use Rattle.config_model.proofs.ByName.{other_section}
use Rattle.config_model.proofs.by_name.with_section.Goals as goal

pub returns-in-General : goal.returns-in-General
returns-in-General c = λ seen is.
    other_section seen c.args.section.now (λ (q : List ℕ). get (slice_cmp nat_cmp) c.args.by_name q) General c.in-General.is (λ b. refl) is

pub returns-in-Pair : goal.returns-in-Pair
returns-in-Pair c = λ seen is.
    other_section seen c.args.section.now (λ (q : List ℕ). get (slice_cmp nat_cmp) c.args.by_name q) Pair c.in-Pair.is (λ b. refl) is

pub returns-in-Ok : goal.returns-in-Ok
returns-in-Ok c = λ seen is. c.in-Ok.ensures c.in-Storage.is seen is
