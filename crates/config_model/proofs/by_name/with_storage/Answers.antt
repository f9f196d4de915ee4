use Rattle.std.proofs.Common.{List, ℕ, cond, Some, sym, ◌∙◌, ap}
use Rattle.std.specs.Ordering.{nat_cmp}
use Rattle.std.specs.Cmp.Lexicographic.{slice_cmp}
use Rattle.std.specs.BTreeMap.{get, is_at}
use Rattle.config_model.proofs.ByName.{storage_known, storage_new}
use Rattle.config_model.proofs.by_name.with_storage.Goals as goal

pub returns-then-contains_key : goal.returns-then-contains_key
returns-then-contains_key c = λ kind seen is.
    storage_known seen c.args.section.now (λ (q : List ℕ). get (slice_cmp nat_cmp) c.args.by_name q) kind (sym c.contains_key.ensures ∙ c.if-contains_key.true) is

pub returns : goal.returns
returns c = λ kind seen is.
    storage_new seen c.args.section (λ (q : List ℕ). get (slice_cmp nat_cmp) c.args.by_name q) (λ (q : List ℕ). get (slice_cmp nat_cmp) c.insert.new.self q) kind
    (sym c.contains_key.ensures ∙ c.if-contains_key.false)
    (λ q. c.in_ok-insert.ensures.updates.0 q
    ∙ ap (λ (p : List ℕ). cond (is_at (slice_cmp nat_cmp p) q) (Some c.args.section) (get (slice_cmp nat_cmp) c.args.by_name q)) (c.in_ok-name.ensures ∙ c.as_str.ensures))
    is
