use Rattle.std.proofs.Common.{◌≡◌, ℕ, List, true, arith, sym}
use Rattle.std.specs.List.{dedup}
use Rattle.std.specs.Cmp.Lexicographic.{pointwise, texts_ties, nat_list_cmp_total, nat_list_eq_equiv, told_text}
use Rattle.std.specs.Prelude.{nat_eq}
use Rattle.std.proofs.lemmas.List.Filters.{dedup_is}
use Rattle.std.proofs.lemmas.List.Kept.{IsStrictlySortedBy-dedup, Contains-dedup, Contains-from_dedup}
use Rattle.std.proofs.lemmas.List.Sorted.{Contains-permutation, IsPermutation-sym}
use Rattle.outside.proofs.subfolders.ordered.Goals as goal

same : (x y : List ℕ) → pointwise nat_eq x y ≡ true → x ≡ y
same x y e = told_text x y true (sym e)

pub returns-clause-order : goal.returns-clause-order
returns-clause-order c =
    let is : c.dedup.new.self.items ≡ dedup (pointwise nat_eq) c.sort_unstable.new.self.items = dedup_is (pointwise nat_eq) _ _ c.dedup.ensures.filtered in
    record {
      rising = rw is (IsStrictlySortedBy-dedup nat_list_cmp_total texts_ties _ c.sort_unstable.ensures.sorted);
      all_kept = λ name h. rw is (Contains-dedup nat_list_eq_equiv same _ name (Contains-permutation _ _ name c.sort_unstable.ensures.permutation h));
      all_given = λ name h. Contains-permutation _ _ name (IsPermutation-sym _ _ c.sort_unstable.ensures.permutation) (Contains-from_dedup (pointwise nat_eq) _ name (rw is at h));
      no_more = omega (arith, c.dedup.ensures.bound, c.sort_unstable.ensures.len);
    }
