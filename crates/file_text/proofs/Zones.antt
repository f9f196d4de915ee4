-- Zones: time zones that are written once.
use Rattle.std.proofs.Common.{◌≡◌, ℕ, ◌+◌, ◌<◌, Bool, true, false, cond, ◌||◌, not, List, [], ◌∷◌, ◌++◌, map, length, take, get_or, refl, sym, ◌∙◌, ap, subst, append_assoc, append-nil}
use Rattle.std.specs.List.{flat_map, list_any}
use Rattle.std.specs.Str.{bytes_eq}
use Rattle.std.specs.Ordering.{nat_cmp}
use Rattle.std.specs.Cmp.Lexicographic.{slice_cmp}
use Rattle.std.specs.BTreeMap.{is_at}
use Rattle.std.proofs.lemmas.Map.Text.{is_eq-slice_cmp}
use Rattle.std.proofs.lemmas.List.{map-append, take_more}
use Rattle.std.proofs.lemmas.List.Concat.{flat_map-append}
use Rattle.std.proofs.lemmas.List.Folds.{list_any-append}
use Rattle.file_text.specs.Joins.{new_zones, all_zones}
use Rattle.file_text.specs.Joining.{has, AreZones}
use Rattle.file_text.specs.Spans.{part_at, parts_at}
use Rattle.file_text.specs.Written.{written}
use Rattle.file_text.specs.declared.marks.Mark.{Mark}
use Rattle.file_text.specs.declared.parts.Span.{Span}
use Rattle.file_text.proofs.ByUid.{flipped}

-- a text is put into a set
pub sees : (text copy : List ℕ) (old new : List (List ℕ)) → copy ≡ text → ((q : List ℕ) → has new q ≡ cond (is_at (slice_cmp nat_cmp copy) q) true (has old q)) → (q : List ℕ) → has new q ≡ cond (bytes_eq text q) true (has old q)
sees text copy old new is h q = h q ∙ ap (λ (b : Bool). cond b true (has old q)) (is_eq-slice_cmp copy q) ∙ ap (λ (t : List ℕ). cond (bytes_eq t q) true (has old q)) is

new_by : (b : Bool) (x : List ℕ) (before behind : List (List ℕ)) (xs more : List (List ℕ)) → xs ≡ more ++ behind → cond b xs (x ∷ xs) ≡ cond b more (x ∷ more) ++ behind
new_by true x before behind xs more h = h
new_by false x before behind xs more h = ap (λ (ys : List (List ℕ)). x ∷ ys) h

-- one time zone more
new_more : (before xs : List (List ℕ)) (zone : List ℕ) → new_zones before (xs ++ zone ∷ []) ≡ new_zones before xs ++ cond (list_any (bytes_eq zone) (before ++ xs)) [] (zone ∷ [])
unfolding new_zones
new_more before [] zone = ap (λ (ys : List (List ℕ)). cond (list_any (bytes_eq zone) ys) [] (zone ∷ [])) (sym (append-nil before))
new_more before (x ∷ xs) zone =
    new_by (list_any (bytes_eq x) before) x before (cond (list_any (bytes_eq zone) (before ++ x ∷ xs)) [] (zone ∷ [])) (new_zones (before ++ x ∷ []) (xs ++ zone ∷ [])) (new_zones (before ++ x ∷ []) xs)
    (new_more (before ++ x ∷ []) xs zone ∙ ap (λ (ys : List (List ℕ)). new_zones (before ++ x ∷ []) xs ++ cond (list_any (bytes_eq zone) ys) [] (zone ∷ [])) (append_assoc before (x ∷ []) xs))

all_more : (zones : List (List ℕ)) (zone : List ℕ) (b : Bool) → list_any (bytes_eq zone) zones ≡ b → all_zones (zones ++ zone ∷ []) ≡ all_zones zones ++ cond b [] zone
unfolding all_zones
all_more zones zone b h =
    ap (flat_map (λ (z : List ℕ). z)) (new_more [] zones zone)
    ∙ (flat_map-append (λ (z : List ℕ). z) (new_zones [] zones) (cond (list_any (bytes_eq zone) zones) [] (zone ∷ []))
    ∙ ap (λ (ys : List ℕ). flat_map (λ (z : List ℕ). z) (new_zones [] zones) ++ ys) (ap (λ (t : Bool). flat_map (λ (z : List ℕ). z) (cond t [] (zone ∷ []))) h ∙ one b zone))
  where
    one : (b : Bool) (zone : List ℕ) → flat_map (λ (z : List ℕ). z) (cond b [] (zone ∷ [])) ≡ cond b [] zone
    one true zone = refl
    one false zone = append-nil zone

also : (s t : Bool) → cond s true t ≡ (t || (s || false))
also true true = refl
also true false = refl
also false true = refl
also false false = refl

not_first : (b seen : Bool) → b ≡ not seen → b ≡ true → seen ≡ false
not_first b true e h = cc
not_first b false e h = refl

was_seen : (b seen : Bool) → b ≡ not seen → b ≡ false → seen ≡ true
was_seen b true e h = refl
was_seen b false e h = cc

module _ (keys more : List (List ℕ)) (text zone bytes : List ℕ) (text_is : text ≡ zone) (sees_text : (q : List ℕ) → has more q ≡ cond (bytes_eq text q) true (has keys q)) (all : List (List ℕ)) (are : AreZones keys bytes all) where
  each_more : (q : List ℕ) → has more q ≡ list_any (bytes_eq q) (all ++ zone ∷ [])
  each_more q =
      sees_text q
      ∙ (ap (λ (b : Bool). cond (bytes_eq text q) true b) (are.each q)
      ∙ (also (bytes_eq text q) (list_any (bytes_eq q) all)
      ∙ (ap (λ (b : Bool). list_any (bytes_eq q) all || (b || false)) (flipped text q ∙ ap (bytes_eq q) text_is)
      ∙ sym (list_any-append (bytes_eq q) all (zone ∷ [])))))

  among : (b : Bool) → has keys text ≡ b → list_any (bytes_eq zone) all ≡ b
  among b h = sym (are.each zone) ∙ (ap (has keys) (sym text_is) ∙ h)

  pub zone_first : (first : Bool) (next : List ℕ) → first ≡ not (has keys text) → first ≡ true → next ≡ bytes ++ text → AreZones more next (all ++ zone ∷ [])
  zone_first first next e h put = record {
    each = each_more;
    are = put ∙ (ap (λ (xs : List ℕ). xs ++ text) are.are ∙ (ap (λ (t : List ℕ). all_zones all ++ t) text_is ∙ sym (all_more all zone false (among false (not_first first (has keys text) e h)))));
  }

  pub zone_again : (first : Bool) → first ≡ not (has keys text) → first ≡ false → AreZones more bytes (all ++ zone ∷ [])
  zone_again first e h = record {
    each = each_more;
    are = are.are ∙ (sym (append-nil (all_zones all)) ∙ sym (all_more all zone true (among true (was_seen first (has keys text) e h))));
  }

-- one part more
pub zones_next : (keys : List (List ℕ)) (bytes : List ℕ) (all : List (List ℕ)) (lines : List Mark) (spans : List Span) (i : ℕ) (d span : Span) → i < length spans → span ≡ get_or spans i d
    → AreZones keys bytes ((all ++ map written (parts_at lines (take i spans))) ++ written (part_at lines span) ∷ []) → AreZones keys bytes (all ++ map written (parts_at lines (take (i + 1) spans)))
zones_next keys bytes all lines spans i d span h e are =
    let one : take (i + 1) spans ≡ take i spans ++ span ∷ [] = take_more spans i d h ∙ ap (λ (s : Span). take i spans ++ s ∷ []) (sym e) in
    let more : map written (parts_at lines (take (i + 1) spans)) ≡ map written (parts_at lines (take i spans)) ++ written (part_at lines span) ∷ [] =
    ap (λ (ss : List Span). map written (parts_at lines ss)) one ∙ (ap (map written) (map-append (part_at lines) (take i spans) (span ∷ [])) ∙ map-append written (parts_at lines (take i spans)) (part_at lines span ∷ [])) in
    subst (λ (zs : List (List ℕ)). AreZones keys bytes zs) (append_assoc all (map written (parts_at lines (take i spans))) (written (part_at lines span) ∷ []) ∙ ap (λ (zs : List (List ℕ)). all ++ zs) (sym more)) are

pub zones_start : (keys : List (List ℕ)) (bytes : List ℕ) (all : List (List ℕ)) → AreZones keys bytes all → AreZones keys bytes (all ++ [])
zones_start keys bytes all are = subst (λ (zs : List (List ℕ)). AreZones keys bytes zs) (sym (append-nil all)) are
