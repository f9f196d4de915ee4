use Rattle.std.proofs.Common.{List, ℕ, cond, Some, sym, ◌∙◌, ap}
use Rattle.std.specs.Ordering.{nat_cmp}
use Rattle.std.specs.Cmp.Lexicographic.{slice_cmp}
use Rattle.std.specs.BTreeMap.{get, is_at}
use Rattle.multistatus.proofs.Scoping.{map_known, map_new}
use Rattle.multistatus.proofs.scopes.mapped.Goals as goal

pub returns-then-contains_key : goal.returns-then-contains_key
returns-then-contains_key c = λ listed is.
    map_known listed c.args.binding.now (λ (q : List ℕ). get (slice_cmp nat_cmp) c.args.by_prefix q) is (sym c.contains_key.ensures ∙ c.if-contains_key.true)

pub returns : goal.returns
returns c = λ listed is.
    map_new listed c.args.binding.now (λ (q : List ℕ). get (slice_cmp nat_cmp) c.args.by_prefix q) (λ (q : List ℕ). get (slice_cmp nat_cmp) c.insert.new.self q) is
    (sym c.contains_key.ensures ∙ c.if-contains_key.false)
    (λ q. c.in_ok-insert.ensures.updates.0 q
    ∙ ap (λ (p : List ℕ). cond (is_at (slice_cmp nat_cmp p) q) (Some c.again-space.result) (get (slice_cmp nat_cmp) c.args.by_prefix q)) (c.of-prefix.ensures ∙ c.as_str.ensures)
    ∙ ap (λ (s : List ℕ). cond (is_at (slice_cmp nat_cmp c.args.binding.now.prefix) q) (Some s) (get (slice_cmp nat_cmp) c.args.by_prefix q)) c.again-space.ensures)
