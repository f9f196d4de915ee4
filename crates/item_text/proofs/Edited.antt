-- Edited: the item of a text that has another UID.
use Rattle.std.proofs.Common.{◌≡◌, ℕ, ◌≤◌, Bool, true, false, cond, List, [], map, length, Option, Some, None, is_some, Err, refl, subst, sym, ◌∙◌, ap, arith, nat_lt}
use Rattle.std.specs.Option.{unwrap_or}
use Rattle.std.specs.Result.{result_ok}
use Rattle.std.specs.List.{filter_map}
use Rattle.std.specs.Str.{is_utf8, IsUtf8}
use Rattle.std.specs.Str.Lossy.{utf8_valid_len}
use Rattle.std.proofs.lemmas.Bool.Decides.{nat_tests}
use Rattle.hex.specs.Hex.{encode_lower}
use Rattle.sha2.specs.Sha256.{sha256}
use Rattle.item_text.specs.Lines.{Line, physical_lines, logical_lines}
use Rattle.item_text.specs.Components.{Before, placed}
use Rattle.item_text.specs.NormalForm.{joined, in_order, normal_form}
use Rattle.item_text.specs.Refusals.{fault_of, refusal_of}
use Rattle.item_text.specs.Items.{ItemValue, fingerprint, value_of_lines, unless_refused, item_of_text, read_item, item_of}
use Rattle.item_text.specs.Plain.{is_plain}
use Rattle.item_text.specs.Edits.{all_changed, changes_of, uid_line, with_uid}
use Rattle.item_text.specs.declared.item.ItemError.{ItemError}
use Rattle.item_text.specs.declared.item.ItemError.TheVariants.{TooLong, NotUtf8}
use Rattle.item_text.proofs.Changes.{alone}
use Rattle.item_text.proofs.Readings.{read_text, item_read, text_taken}
use Rattle.item_text.proofs.Parts.{lines_of_edited}
use Rattle.item_text.proofs.Relabelled.{Same, same_from, changes_begin, changes_end, fine_of, last_of, none_of}
use Rattle.item_text.proofs.Renamed.{Names, renamed}
use Rattle.item_text.proofs.UidLine.{Plain, plain}

-- what a text that is an item is
pub record IsItem (text : List ℕ) (item : ItemValue) : Type 0 where
  pub short : length text ≤ 8388608
  pub fine : refusal_of (length (physical_lines text)) (logical_lines text) ≡ None
  pub is : value_of_lines text (placed (logical_lines text)) ≡ item

told : (long utf8 : Bool) (refusal : Option ItemError) (value item : ItemValue) (place : ℕ) → result_ok (cond long (Err TooLong) (cond utf8 (unless_refused refusal value) (Err (NotUtf8 place)))) ≡ Some item
    → (long ≡ false) × (refusal ≡ None) × (value ≡ item)
unfolding unless_refused
told true utf8 refusal value item place h = cc
told false false refusal value item place h = cc
told false true (Some e) value item place h = cc
told false true None value item place h = (refl, refl, cc)

not_long : (n m : ℕ) → nat_lt n m ≡ false → m ≤ n
not_long n m h = grind (arith, nat_tests)

pub is_item : (text : List ℕ) (item : ItemValue) → item_of text ≡ Some item → IsItem text item
unfolding item_of read_item item_of_text
is_item text item h =
    let parts = told (nat_lt 8388608 (length text)) (is_utf8 text) (refusal_of (length (physical_lines text)) (logical_lines text)) (value_of_lines text (placed (logical_lines text))) item (utf8_valid_len text) h in
    record { short = not_long 8388608 (length text) parts.0; fine = parts.1; is = parts.2 }

pub fine_item : (text : List ℕ) (item : ItemValue) → item_of text ≡ Some item → filter_map fault_of (placed (logical_lines text)) ≡ []
fine_item text item h = fine_of (length (physical_lines text)) (logical_lines text) (is_item text item h).fine

-- the lines of the edited text
module _ (text uid : List ℕ) (p : Plain uid) (count : ℕ) (fine : refusal_of count (logical_lines text) ≡ None) where
  changed : map (λ (line : Line). line.text) (logical_lines (with_uid text uid)) ≡ all_changed (uid_line uid) (changes_of (placed (logical_lines text))) (map alone (map (λ (line : Line). line.text) (logical_lines text)))
  changed = lines_of_edited text uid p.one_line (changes_begin (logical_lines text)) (changes_end count (logical_lines text) fine)

  same : Same Before (logical_lines text) (logical_lines (with_uid text uid))
  unfolding changes_of placed
  same = same_from (uid_line uid) uid p.named p.short false Before (logical_lines text) (logical_lines (with_uid text uid)) (fine_of count (logical_lines text) fine) changed

  names : Names uid (logical_lines text) (logical_lines (with_uid text uid))
  names = renamed (uid_line uid) uid p.named p.some count (logical_lines text) (logical_lines (with_uid text uid)) fine changed

  not_refused : (other : ℕ) → refusal_of other (logical_lines (with_uid text uid)) ≡ None
  unfolding placed
  not_refused other = none_of other (logical_lines (with_uid text uid)) same.fine (same.last ∙ last_of count (logical_lines text) fine) names.fine

  same_version : fingerprint (placed (logical_lines (with_uid text uid))) ≡ fingerprint (placed (logical_lines text))
  unfolding fingerprint normal_form placed
  same_version = ap (λ (ks : List (List ℕ)). sha256 (joined (in_order ks))) same.kept

version_of : (text : List ℕ) (item : ItemValue) → value_of_lines text (placed (logical_lines text)) ≡ item → fingerprint (placed (logical_lines text)) ≡ item.version
unfolding value_of_lines
version_of text item h = ap (λ (i : ItemValue). i.version) h

-- the edited text is the item of that UID and of the same version
pub edited : (text uid : List ℕ) (item : ItemValue) → item_of text ≡ Some item → is_plain uid ≡ true → length (with_uid text uid) ≤ 8388608 → IsUtf8 (with_uid text uid)
    → item_of (with_uid text uid) ≡ Some (record { text = with_uid text uid; ident = uid; has_uid = true; version = item.version })
edited text uid item h k short utf8 =
    let p = plain uid k in
    let old = is_item text item h in
    let count = length (physical_lines text) in
    let named = (names text uid p count old.fine).named in
    item_read (with_uid text uid) (record { text = with_uid text uid; ident = uid; has_uid = true; version = item.version })
    (read_text (with_uid text uid) short utf8
    ∙ text_taken (with_uid text uid) (length (physical_lines (with_uid text uid))) (logical_lines (with_uid text uid)) uid item.version true refl refl
    (not_refused text uid p count old.fine (length (physical_lines (with_uid text uid))))
    (sym (ap (λ (o : Option (List ℕ)). unwrap_or o (encode_lower (fingerprint (placed (logical_lines (with_uid text uid)))))) named))
    (sym (ap is_some named))
    (sym (same_version text uid p count old.fine ∙ version_of text item old.is)))

pub edited_taken : (text uid lent made copy ident : List ℕ) (item : ItemValue) → item_of text ≡ Some item → is_plain uid ≡ true → lent ≡ text → made ≡ with_uid lent uid → copy ≡ made → ident ≡ uid → length made ≤ 8388608 → IsUtf8 made
    → (copy ≡ with_uid text uid) × (item_of copy ≡ Some (record { text = copy; ident = ident; has_uid = true; version = item.version }))
edited_taken text uid lent made copy ident item h k same is moved named short utf8 =
    let whole : made ≡ with_uid text uid = is ∙ ap (λ (t : List ℕ). with_uid t uid) same in
    let found = edited text uid item h k (omega (arith, short, ap length whole)) (subst IsUtf8 whole utf8) in (
      moved ∙ whole,
      ap item_of (moved ∙ whole) ∙ (found
          ∙ (ap (λ (t : List ℕ). Some (record { text = t; ident = uid; has_uid = true; version = item.version })) (sym (moved ∙ whole))
          ∙ ap (λ (i : List ℕ). Some (record { text = copy; ident = i; has_uid = true; version = item.version })) (sym named))),
    )
