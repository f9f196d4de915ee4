use Rattle.std.proofs.Common.{◌≡◌, ℕ, ◌+◌, ◌<◌, ◌≤◌, List, [], ◌∷◌, ◌++◌, map, length, drop, get_or, Bor, sym, ◌∙◌, ap, arith, add-one, drop-cons, append-nil}
use Rattle.sha2.specs.Sha256.{sha256}
use Rattle.std.proofs.lemmas.List.{drop_all}
use Rattle.item_text.proofs.Feeding.{spread, spread-none, spread-more}
use Rattle.item_text.proofs.normal.digest_of.Goals as goal

next_line : (xs : List (Bor (List ℕ))) (i : ℕ) (d : Bor (List ℕ)) → i < length xs
    → map (λ (x : Bor (List ℕ)). x.now) (drop i xs) ≡ (get_or xs i d).now ∷ map (λ (x : Bor (List ℕ)). x.now) (drop (i + 1) xs)
next_line xs i d h =
    let cut : drop i xs ≡ get_or xs i d ∷ drop (i + 1) xs = rw (add-one, drop-cons xs i d) in
    ap (map (λ (x : Bor (List ℕ)). x.now)) cut

no_lines : (xs : List (Bor (List ℕ))) (i : ℕ) → length xs ≤ i → map (λ (x : Bor (List ℕ)). x.now) (drop i xs) ≡ []
no_lines xs i h = ap (map (λ (x : Bor (List ℕ)). x.now)) (drop_all i xs h)

spread_of_none : (between : List ℕ) (xs : List (List ℕ)) → xs ≡ [] → spread between xs ≡ []
unfolding spread
spread_of_none between xs h = ap (spread between) h

pub lines-init : goal.lines-init
lines-init c = record { message = []; held = c.new-hasher.ensures; is = spread-none _ }

pub lines-preserved : goal.lines-preserved
lines-preserved c =
    record {
      message = (c.lines.invariant.message ++ c.lines.between.now) ++ _;
      held = c.update-in-lines.ensures _ (c.update.ensures _ c.lines.invariant.held);
      is = spread-more c.lines.invariant.message c.lines.between.now _ _
          ∙ (ap (λ w. c.lines.invariant.message ++ spread c.lines.between.now w) (sym (next_line c.args.lines.now c.lines.line-index _ (omega arith))) ∙ c.lines.invariant.is);
    }

pub returns : goal.returns
returns c =
    c.finalize.ensures _ c.lines.invariant.held
    ∙ ap sha256 (sym (append-nil c.lines.invariant.message)
    ∙ (ap (λ w. c.lines.invariant.message ++ w) (sym (spread_of_none c.lines.between.now _ (no_lines c.args.lines.now c.lines.line-index (omega arith)))) ∙ c.lines.invariant.is))
