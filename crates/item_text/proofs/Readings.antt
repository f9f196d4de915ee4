-- Readings: what a text reads as, by what a walk found in its lines.
use Rattle.std.proofs.Common.{◌≡◌, ℕ, ◌≤◌, Bool, true, false, cond, List, [], ◌∷◌, ◌++◌, length, drop, Option, Some, None, is_some, Ok, Err, refl, sym, ◌∙◌, ap, arith, append-nil, nat_lt, nat_eq, Bor}
use Rattle.std.specs.Option.{option_map, unwrap_or}
use Rattle.std.specs.Result.{result_ok}
use Rattle.std.specs.List.{starts_with}
use Rattle.std.specs.Str.{is_utf8, IsUtf8}
use Rattle.std.specs.Str.Lossy.{utf8_valid_len}
use Rattle.std.specs.Str.Lines.{lines}
use Rattle.std.proofs.lemmas.Str.{is_utf8-from_IsUtf8, IsUtf8-from_is_utf8}
use Rattle.std.proofs.lemmas.List.{length-drop}
use Rattle.std.proofs.lemmas.Bool.Decides.{nat_tests}
use Rattle.hex.specs.Hex.{encode_lower}
use Rattle.sha2.specs.Sha256.{sha256}
use Rattle.item_text.specs.Lines.{Line, without_mark, physical_lines, logical_lines, unfolded}
use Rattle.item_text.specs.Components.{Place, placed, placed_from, last_place}
use Rattle.item_text.specs.NormalForm.{normal_form, joined, in_order}
use Rattle.item_text.specs.Refusals.{first_of, else_of, fault_of_end, fault_of_calendar, refusal_of, Mark, Child}
use Rattle.item_text.specs.Items.{ItemValue, fingerprint, uid_among, value_of_lines, unless_refused, item_of_text, read_item, item_of}
use Rattle.item_text.specs.Walks.{Found, found_in, found_behind}
use Rattle.item_text.specs.declared.item.ItemError.{ItemError}
use Rattle.item_text.proofs.Marks.{else_none}
use Rattle.item_text.specs.declared.item.ItemError.TheVariants.{TooLong, NotUtf8}

-- the byte order mark
pub marked : (text : List ℕ) → starts_with nat_eq text (239 ∷ 187 ∷ 191 ∷ []) ≡ true → drop 3 text ≡ without_mark text
unfolding without_mark
marked text h = sym (ap (λ (b : Bool). cond b (drop 3 text) text) h)

pub unmarked : (text : List ℕ) → starts_with nat_eq text (239 ∷ 187 ∷ 191 ∷ []) ≡ false → text ≡ without_mark text
unfolding without_mark
unmarked text h = sym (ap (λ (b : Bool). cond b (drop 3 text) text) h)

shorter : (b : Bool) (text : List ℕ) → length (cond b (drop 3 text) text) ≤ length text
shorter true text = omega (arith, length-drop 3 text)
shorter false text = omega arith

unmarked_short : (text : List ℕ) → length (without_mark text) ≤ length text
unfolding without_mark
unmarked_short text = shorter (starts_with nat_eq text (239 ∷ 187 ∷ 191 ∷ [])) text

-- the refusal by what was found
unfoldable pub refusal_by : ℕ → Found → Option ItemError
refusal_by count f = else_of (first_of (f.faults ++ fault_of_end count f.last)) (fault_of_calendar f.calendar f.children)

pub refusal_is : (count : ℕ) (all : List Line) → refusal_of count all ≡ refusal_by count (found_in all)
unfolding refusal_of refusal_by found_in
refusal_is count all = refl

first_stays : (xs ys : List ItemError) (e : ItemError) → first_of xs ≡ Some e → first_of (xs ++ ys) ≡ Some e
unfolding first_of
first_stays [] ys e h = absurd (nothing h)
  where
    nothing : ◌≡◌ {A = Option ItemError} None (Some e) → ⊥
    nothing k = cc
first_stays (x ∷ xs) ys e h = h

else_some : {X : Type 0} (a b : Option X) (e : X) → a ≡ Some e → else_of a b ≡ Some e
unfolding else_of
else_some a b e h = ap (λ (o : Option _). else_of o b) h

pub refused_early : (count : ℕ) (all : List Line) (e : ItemError) → first_of (found_in all).faults ≡ Some e → refusal_of count all ≡ Some e
unfolding refusal_by
refused_early count all e h =
    refusal_is count all ∙ else_some (first_of ((found_in all).faults ++ fault_of_end count (found_in all).last)) (fault_of_calendar (found_in all).calendar (found_in all).children) e
    (first_stays (found_in all).faults (fault_of_end count (found_in all).last) e h)

-- behind all lines
module _ (place : Place) (uid : Option (List ℕ)) (calendar : Option ℕ) (children : List Mark → List Child) (kept : List (List ℕ)) (all : List Line)
    (found : found_behind place uid calendar children kept [] ≡ found_in all) where
  by_end : (count : ℕ) → refusal_of count all ≡ else_of (first_of (fault_of_end count place)) (fault_of_calendar calendar (children []))
  unfolding refusal_by found_behind placed_from last_place first_of
  by_end count =
      refusal_is count all ∙ (ap (refusal_by count) (sym found)
      ∙ ap (λ (c : Option ℕ). else_of (first_of (fault_of_end count place)) (fault_of_calendar c (children []))) (else_none calendar))

  pub refused_at_end : (count : ℕ) (e : ItemError) → first_of (fault_of_end count place) ≡ Some e → refusal_of count all ≡ Some e
  refused_at_end count e h = by_end count ∙ else_some (first_of (fault_of_end count place)) (fault_of_calendar calendar (children [])) e h

  pub refused_by_children : (count : ℕ) (fault : Option ItemError) → first_of (fault_of_end count place) ≡ None → fault ≡ fault_of_calendar calendar (children []) → refusal_of count all ≡ fault
  unfolding else_of
  refused_by_children count fault h k = by_end count ∙ (ap (λ (o : Option ItemError). else_of o (fault_of_calendar calendar (children []))) h ∙ sym k)

  pub uid_told : uid ≡ uid_among (placed all)
  unfolding uid_among found_in found_behind placed_from first_of
  uid_told = sym (else_none uid) ∙ ap (λ (f : Found). f.uid) found

  pub version_told : sha256 (joined (in_order kept)) ≡ fingerprint (placed all)
  unfolding fingerprint normal_form found_in found_behind placed_from
  version_told = ap (λ (ks : List (List ℕ)). sha256 (joined (in_order ks))) (sym (append-nil kept) ∙ ap (λ (f : Found). f.kept) found)

-- a text by its lines
text_by : (text : List ℕ) (count : ℕ) (all : List Line) → count ≡ length (physical_lines text) → all ≡ logical_lines text → item_of_text text ≡ unless_refused (refusal_of count all) (value_of_lines text (placed all))
unfolding item_of_text
text_by text count all h k =
    ap (λ (n : ℕ). unless_refused (refusal_of n (logical_lines text)) (value_of_lines text (placed (logical_lines text)))) (sym h)
    ∙ ap (λ (ls : List Line). unless_refused (refusal_of count ls) (value_of_lines text (placed ls))) (sym k)

pub text_refused : (text : List ℕ) (count : ℕ) (all : List Line) (e : ItemError) → count ≡ length (physical_lines text) → all ≡ logical_lines text → refusal_of count all ≡ Some e → item_of_text text ≡ Err e
unfolding unless_refused
text_refused text count all e h k r = text_by text count all h k ∙ ap (λ (o : Option ItemError). unless_refused o (value_of_lines text (placed all))) r

pub text_taken : (text : List ℕ) (count : ℕ) (all : List Line) (ident version : List ℕ) (has_uid : Bool) → count ≡ length (physical_lines text) → all ≡ logical_lines text → refusal_of count all ≡ None
    → ident ≡ unwrap_or (uid_among (placed all)) (encode_lower (fingerprint (placed all))) → has_uid ≡ is_some (uid_among (placed all)) → version ≡ fingerprint (placed all)
    → item_of_text text ≡ Ok (record { text = text; ident = ident; has_uid = has_uid; version = version })
unfolding unless_refused value_of_lines
text_taken text count all ident version has_uid h k r i u v =
    text_by text count all h k ∙ (ap (λ (o : Option ItemError). unless_refused o (value_of_lines text (placed all))) r
    ∙ (ap (λ (x : List ℕ). Ok (record { text = text; ident = x; has_uid = is_some (uid_among (placed all)); version = fingerprint (placed all) })) (sym i)
    ∙ (ap (λ (x : Bool). Ok (record { text = text; ident = ident; has_uid = x; version = fingerprint (placed all) })) (sym u)
    ∙ ap (λ (x : List ℕ). Ok (record { text = text; ident = ident; has_uid = has_uid; version = x })) (sym v))))

-- the text without its mark
pub body_lines : (text body : List ℕ) → body ≡ without_mark text → unfolded (lines body) ≡ logical_lines text
unfolding logical_lines physical_lines
body_lines text body h = ap (λ (bs : List ℕ). unfolded (lines bs)) h

pub body_count : (text body : List ℕ) → body ≡ without_mark text → length (lines body) ≡ length (physical_lines text)
unfolding physical_lines
body_count text body h = ap (λ (bs : List ℕ). length (lines bs)) h

pub body_short : (text body : List ℕ) → body ≡ without_mark text → length body ≤ length text
body_short text body h = omega (arith, ap length h, unmarked_short text)

short : (n m : ℕ) → m ≤ n → nat_lt n m ≡ false
short n m h = grind (arith, nat_tests)

short_by : (text : List ℕ) → length text ≤ 8388608 → read_item text ≡ cond (is_utf8 text) (item_of_text text) (Err (NotUtf8 (utf8_valid_len text)))
unfolding read_item
short_by text h = ap (λ (b : Bool). cond b (Err TooLong) (cond (is_utf8 text) (item_of_text text) (Err (NotUtf8 (utf8_valid_len text))))) (short 8388608 (length text) h)

pub read_text : (text : List ℕ) → length text ≤ 8388608 → IsUtf8 text → read_item text ≡ item_of_text text
read_text text h u = short_by text h ∙ ap (λ (b : Bool). cond b (item_of_text text) (Err (NotUtf8 (utf8_valid_len text)))) (is_utf8-from_IsUtf8 text u)

false_of : (b : Bool) → (b ≡ true → ⊥) → b ≡ false
false_of true h = absurd (h refl)
false_of false h = refl

pub read_other : (text : List ℕ) → length text ≤ 8388608 → (IsUtf8 text → ⊥) → read_item text ≡ Err (NotUtf8 (utf8_valid_len text))
read_other text h u = short_by text h ∙ ap (λ (b : Bool). cond b (item_of_text text) (Err (NotUtf8 (utf8_valid_len text)))) (false_of (is_utf8 text) (λ k. u (IsUtf8-from_is_utf8 text k)))

pub item_read : (text : List ℕ) (item : ItemValue) → read_item text ≡ Ok item → item_of text ≡ Some item
unfolding item_of
item_read text item h = ap result_ok h

pub some_lent : (o : Option (Bor (List ℕ))) → is_some o ≡ is_some (option_map (λ (x : Bor (List ℕ)). x.now) o)
some_lent None = refl
some_lent (Some x) = refl

pub read_taken : (text utf8 copy ident version : List ℕ) (has_uid : Bool) → length text ≤ 8388608 → utf8 ≡ text → IsUtf8 text → item_of_text utf8 ≡ Ok (record { text = utf8; ident = ident; has_uid = has_uid; version = version })
    → copy ≡ utf8 → read_item text ≡ Ok (record { text = copy; ident = ident; has_uid = has_uid; version = version })
read_taken text utf8 copy ident version has_uid h e u told same =
    read_text text h u ∙ (ap item_of_text (sym e) ∙ (told ∙ ap (λ (t : List ℕ). Ok (record { text = t; ident = ident; has_uid = has_uid; version = version })) (sym same)))

pub item_taken : (text utf8 copy ident version : List ℕ) (has_uid : Bool) → length text ≤ 8388608 → utf8 ≡ text → IsUtf8 text → item_of_text utf8 ≡ Ok (record { text = utf8; ident = ident; has_uid = has_uid; version = version })
    → copy ≡ utf8 → item_of copy ≡ Some (record { text = copy; ident = ident; has_uid = has_uid; version = version })
item_taken text utf8 copy ident version has_uid h e u told same =
    item_read copy (record { text = copy; ident = ident; has_uid = has_uid; version = version })
    (ap read_item (same ∙ e) ∙ read_taken text utf8 copy ident version has_uid h e u told same)
