-- ByUid: the children of a VCALENDAR by their UID, and those that make an item.
use Rattle.std.proofs.Common.{◌≡◌, ℕ, ◌+◌, ◌<◌, Bool, true, false, cond, List, [], ◌∷◌, ◌++◌, filter, length, take, get_or, Option, Some, None, refl, sym, ◌∙◌, ap, append-nil}
use Rattle.std.specs.Str.{bytes_eq}
use Rattle.std.proofs.lemmas.Slice.Eq.{bytes_eq-Decides}
use Rattle.item_text.specs.Refusals.{same_uid}
use Rattle.file_text.specs.Parts.{uid_of, has_uid}
use Rattle.file_text.specs.Spans.{part_at, parts_at}
use Rattle.file_text.specs.declared.marks.Mark.{Mark}
use Rattle.file_text.specs.declared.parts.Span.{Span}
use Rattle.file_text.proofs.Cutting.{filter_more}

pub flipped : (x y : List ℕ) → bytes_eq x y ≡ bytes_eq y x
flipped x y = at (bytes_eq x y) (bytes_eq y x) (λ h. (bytes_eq-Decides y x).1 (sym ((bytes_eq-Decides x y).0 h))) (λ h. (bytes_eq-Decides x y).1 (sym ((bytes_eq-Decides y x).0 h)))
  where
    at : (s t : Bool) → (s ≡ true → t ≡ true) → (t ≡ true → s ≡ true) → s ≡ t
    at true t f g = sym (f refl)
    at false true f g = g refl
    at false false f g = refl

pub has_its_uid : (q : List ℕ) (child : List Mark) (uid : List ℕ) → Some uid ≡ uid_of child → has_uid q child ≡ bytes_eq uid q
unfolding same_uid
has_its_uid q child uid h = ap (λ (o : Option (List ℕ)). same_uid o (Some q)) (sym h)

pub has_none : (q : List ℕ) (child : List Mark) → None ≡ uid_of child → has_uid q child ≡ false
unfolding same_uid
has_none q child h = ap (λ (o : Option (List ℕ)). same_uid o (Some q)) (sym h)

put_by : (b : Bool) (old : List (List Mark)) (child : List Mark) → cond b (old ++ child ∷ []) old ≡ old ++ cond b (child ∷ []) []
put_by true old child = refl
put_by false old child = sym (append-nil old)

-- one child more that has a UID
pub added : (lines : List Mark) (children : List Span) (i : ℕ) (d span : Span) (q uid : List ℕ) (old new : List (List Mark)) → i < length children → span ≡ get_or children i d → Some uid ≡ uid_of (part_at lines span)
    → new ≡ cond (bytes_eq q uid) (old ++ part_at lines span ∷ []) old → old ≡ filter (has_uid q) (parts_at lines (take i children)) → new ≡ filter (has_uid q) (parts_at lines (take (i + 1) children))
added lines children i d span q uid old new h e has put so_far =
    filter_more (has_uid q) lines children i d span old new h e so_far
    (put ∙ (put_by (bytes_eq q uid) old (part_at lines span) ∙ ap (λ (b : Bool). old ++ cond b (part_at lines span ∷ []) []) (flipped q uid ∙ sym (has_its_uid q (part_at lines span) uid has))))

-- or has none
pub passed_over : (lines : List Mark) (children : List Span) (i : ℕ) (d span : Span) (q : List ℕ) (old : List (List Mark)) → i < length children → span ≡ get_or children i d → None ≡ uid_of (part_at lines span)
    → old ≡ filter (has_uid q) (parts_at lines (take i children)) → old ≡ filter (has_uid q) (parts_at lines (take (i + 1) children))
passed_over lines children i d span q old h e has so_far =
    filter_more (has_uid q) lines children i d span old old h e so_far
    (sym (append-nil old) ∙ ap (λ (b : Bool). old ++ cond b (part_at lines span ∷ []) []) (sym (has_none q (part_at lines span) has)))
