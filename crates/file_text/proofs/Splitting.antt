-- Splitting: a file by its length, its bytes, its refusal and its items.
use Rattle.std.proofs.Common.{◌≡◌, ℕ, ◌<◌, ◌≤◌, Bool, true, false, cond, nat_lt, List, [], length, Option, Some, None, Result, Err, refl, sym, ◌∙◌, ap, arith}
use Rattle.std.specs.List.{flat_map}
use Rattle.std.specs.Str.{is_utf8, IsUtf8}
use Rattle.std.proofs.lemmas.Str.{is_utf8-from_IsUtf8, IsUtf8-from_is_utf8}
use Rattle.std.specs.Str.Lossy.{utf8_valid_len}
use Rattle.std.proofs.lemmas.Bool.Decides.{nat_tests}
use Rattle.item_text.specs.Lines.{Line, physical_lines, logical_lines}
use Rattle.item_text.specs.Components.{Before}
use Rattle.item_text.specs.Items.{ItemValue}
use Rattle.item_text.specs.declared.item.ItemError.{ItemError}
use Rattle.item_text.specs.declared.item.ItemError.TheVariants.{TooLong, NotUtf8}
use Rattle.file_text.specs.Marks.{refusal_from, marks_from}
use Rattle.file_text.specs.Parts.{cut}
use Rattle.file_text.specs.Splits.{texts_of, file_texts, read_behind, unless_refused, split_text, split}
use Rattle.file_text.specs.declared.marks.Mark.{Mark}
use Rattle.file_text.specs.declared.parts.Level.TheVariants as level

abbrev pub Items : Type 0
Items = Result (List ItemValue) ItemError

pub long_file : (text : List ℕ) → 268435456 < length text → split text ≡ Err TooLong
unfolding split
long_file text h =
    let long : nat_lt 268435456 (length text) ≡ true = grind (arith, nat_tests) in
    ap (λ (b : Bool). cond b (Err TooLong) (cond (is_utf8 text) (split_text text) (Err (NotUtf8 (utf8_valid_len text))))) long

false_of : (b : Bool) → (b ≡ true → ⊥) → b ≡ false
false_of true h = absurd (h refl)
false_of false h = refl

pub other_file : (text : List ℕ) → length text ≤ 268435456 → (IsUtf8 text → ⊥) → split text ≡ Err (NotUtf8 (utf8_valid_len text))
unfolding split
other_file text h other =
    let short : nat_lt 268435456 (length text) ≡ false = grind (arith, nat_tests) in
    ap (λ (b : Bool). cond b (Err TooLong) (cond (is_utf8 text) (split_text text) (Err (NotUtf8 (utf8_valid_len text))))) short
    ∙ ap (λ (b : Bool). cond b (split_text text) (Err (NotUtf8 (utf8_valid_len text)))) (false_of (is_utf8 text) (λ k. other (IsUtf8-from_is_utf8 text k)))

pub text_file : (text : List ℕ) → length text ≤ 268435456 → IsUtf8 text → split text ≡ split_text text
unfolding split
text_file text h utf8 =
    let short : nat_lt 268435456 (length text) ≡ false = grind (arith, nat_tests) in
    ap (λ (b : Bool). cond b (Err TooLong) (cond (is_utf8 text) (split_text text) (Err (NotUtf8 (utf8_valid_len text))))) short
    ∙ ap (λ (b : Bool). cond b (split_text text) (Err (NotUtf8 (utf8_valid_len text)))) (is_utf8-from_IsUtf8 text utf8)

module _ (text : List ℕ) (count : ℕ) (lines : List Line) (count_is : count ≡ length (physical_lines text)) (lines_are : lines ≡ logical_lines text) where
  refusal_is : refusal_from (length (physical_lines text)) Before (logical_lines text) ≡ refusal_from count Before lines
  refusal_is = ap (λ (n : ℕ). refusal_from n Before (logical_lines text)) (sym count_is) ∙ ap (refusal_from count Before) (sym lines_are)

  pub file_refused : (error : ItemError) → refusal_from count Before lines ≡ Some error → split_text text ≡ Err error
  unfolding split_text unless_refused
  file_refused error h = ap (λ (o : Option ItemError). unless_refused o (read_behind [] (file_texts (marks_from Before (logical_lines text))))) (refusal_is ∙ h)

  pub file_taken : (marks : List Mark) (components : List (List Mark)) → refusal_from count Before lines ≡ None → marks ≡ marks_from Before lines → components ≡ cut level.File marks → read_behind [] (flat_map texts_of components) ≡ split_text text
  unfolding split_text unless_refused file_texts
  file_taken marks components h are cut_is =
      ap (λ (cs : List (List Mark)). read_behind [] (flat_map texts_of cs)) (cut_is ∙ ap (cut level.File) (are ∙ ap (marks_from Before) lines_are))
      ∙ sym (ap (λ (o : Option ItemError). unless_refused o (read_behind [] (file_texts (marks_from Before (logical_lines text))))) (refusal_is ∙ h))
