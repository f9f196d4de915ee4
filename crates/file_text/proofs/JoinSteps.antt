-- JoinSteps: what is written of the items so far, and of one more.
use Rattle.std.proofs.Common.{◌≡◌, ℕ, ◌+◌, ◌-◌, Bool, true, false, cond, not, ◌||◌, nat_lt, length, arith, List, [], ◌∷◌, ◌++◌, string_bytes, refl, sym, ◌∙◌, ap, subst, append-nil, codes}
use Rattle.std.specs.List.{filter, flat_map, list_any}
use Rattle.std.proofs.lemmas.List.Folds.{list_any-append}
use Rattle.std.proofs.lemmas.List.{length-append}
use Rattle.std.proofs.lemmas.List.Concat.{flat_map-append}
use Rattle.std.proofs.lemmas.List.Elements.{filter-append}
use Rattle.std.specs.declared.string.String.{String}
use Rattle.std.specs.declared.alloc.Global.{Global}
use Rattle.file_text.specs.Joins.{is_calendar, calendars, others, head_of, first_head, end_of, zones_of, new_zones, all_zones, children_in, children_of, frame_of, joined}
use Rattle.file_text.specs.Joining.{has, AreZones, is_some_list, AreChildren, IsJoining}
use Rattle.file_text.specs.Lengths.{AreLengths}
use Rattle.file_text.proofs.LongItems.{or_false, none_less}
use Rattle.file_text.specs.Parts.{head_role}
use Rattle.file_text.specs.Written.{folded, written, all_written}
use Rattle.file_text.specs.declared.join.Joining.{Joining}
use Rattle.file_text.specs.declared.marks.Mark.{Mark}

flat_children : (all : List (List Mark)) → flat_map children_of all ≡ all_written (flat_map children_in all)
unfolding children_of all_written
flat_children [] = refl
flat_children (marks ∷ more) = ap (λ (t : List ℕ). all_written (children_in marks) ++ t) (flat_children more) ∙ sym (flat_map-append written (children_in marks) (flat_map children_in more))

pub child_written : (all : List (List Mark)) (child : List Mark) (old new : List ℕ) → old ≡ all_written all → new ≡ old ++ written child → new ≡ all_written (all ++ child ∷ [])
unfolding all_written
child_written all child old new h put =
    put ∙ (ap (λ (t : List ℕ). t ++ written child) h ∙ (ap (λ (t : List ℕ). all_written all ++ t) (sym (append-nil (written child))) ∙ sym (flat_map-append written all (child ∷ []))))

-- nothing is written of no items
pub none_joined : (joining : Joining) → joining.begun ≡ false → string_bytes joining.head ≡ [] → joining.seen.keys ≡ [] → string_bytes joining.zones ≡ [] → string_bytes joining.children ≡ [] → AreLengths joining.lengths [] → string_bytes joining.others ≡ [] → joining.longest_other ≡ 0 → IsJoining joining []
unfolding calendars others first_head all_zones new_zones all_written
none_joined joining begun head keys zones children lengths rest longest = record {
  begun = begun;
  head = head;
  zones = record { each = λ q. ap (λ (ks : List (List ℕ)). has ks q) keys; are = zones };
  children = record { are = children; counted = lengths };
  others = rest;
  longest_other = λ n. ap (nat_lt n) longest ∙ none_less n;
}

module _ (items : List (List Mark)) (item : List Mark) where
  calendars_more : (b : Bool) → is_calendar (head_role item) ≡ b → calendars (items ++ item ∷ []) ≡ calendars items ++ cond b (item ∷ []) []
  unfolding calendars
  calendars_more b h =
      filter-append (λ (m : List Mark). is_calendar (head_role m)) items (item ∷ []) ∙ ap (λ (t : Bool). filter (λ (m : List Mark). is_calendar (head_role m)) items ++ cond t (item ∷ []) []) h

  others_more : (b : Bool) → is_calendar (head_role item) ≡ b → others (items ++ item ∷ []) ≡ others items ++ cond (not b) (item ∷ []) []
  unfolding others
  others_more b h =
      filter-append (λ (m : List Mark). not (is_calendar (head_role m))) items (item ∷ []) ∙ ap (λ (t : Bool). filter (λ (m : List Mark). not (is_calendar (head_role m))) items ++ cond (not t) (item ∷ []) []) h

  one_more : {X : Type 0} (f : List Mark → List X) (xs : List (List Mark)) → flat_map f (xs ++ item ∷ []) ≡ flat_map f xs ++ f item
  one_more f xs = flat_map-append f xs (item ∷ []) ∙ ap (λ ys. flat_map f xs ++ ys) (append-nil (f item))

  any_more : (n longest next : ℕ) → nat_lt n longest ≡ list_any (λ item. nat_lt n (length (written item))) (others items) → nat_lt n next ≡ (nat_lt n longest || nat_lt n (length (written item))) → nat_lt n next ≡ list_any (λ item. nat_lt n (length (written item))) (others items ++ item ∷ [])
  any_more n longest next told more =
      more
      ∙ (ap (λ (b : Bool). b || nat_lt n (length (written item))) told
      ∙ (ap (λ (b : Bool). list_any (λ item. nat_lt n (length (written item))) (others items) || b) (sym (or_false (nat_lt n (length (written item))))) ∙ sym (list_any-append (λ item. nat_lt n (length (written item))) (others items) (item ∷ []))))

  pub other_added : (joining : Joining) (out : String Global) (longest count : ℕ) → is_calendar (head_role item) ≡ false → IsJoining joining items → string_bytes out ≡ string_bytes joining.others ++ written item → count ≡ length (written item)
      → ((n : ℕ) → nat_lt n longest ≡ (nat_lt n joining.longest_other || nat_lt n count))
      → IsJoining (record { begun = joining.begun; head = joining.head; zones = joining.zones; seen = joining.seen; children = joining.children; lengths = joining.lengths; others = out; longest_other = longest }) (items ++ item ∷ [])
  unfolding all_written
  other_added joining out longest count h is put count_is more =
      let same : calendars (items ++ item ∷ []) ≡ calendars items = calendars_more false h ∙ append-nil (calendars items) in
      record {
        begun = is.begun ∙ ap is_some_list (sym same);
        head = is.head ∙ ap first_head (sym same);
        zones = subst (λ (cs : List (List Mark)). AreZones joining.seen.keys (string_bytes joining.zones) (flat_map zones_of cs)) (sym same) is.zones;
        children = subst (λ (cs : List (List Mark)). AreChildren (string_bytes joining.children) joining.lengths (flat_map children_in cs)) (sym same) is.children;
        longest_other = λ n. any_more n joining.longest_other longest (is.longest_other n) (more n ∙ ap (λ (m : ℕ). nat_lt n joining.longest_other || nat_lt n m) count_is) ∙ ap (list_any (λ item. nat_lt n (length (written item)))) (sym (others_more false h));
        others = put ∙ (ap (λ (xs : List ℕ). xs ++ written item) is.others ∙ (sym (one_more written (others items)) ∙ ap (flat_map written) (sym (others_more false h))));
      }

  some_more : (xs : List (List Mark)) → true ≡ is_some_list (xs ++ item ∷ [])
  some_more [] = refl
  some_more (x ∷ xs) = refl

  head_more : (xs : List (List Mark)) (begun : Bool) (old new : List ℕ) → begun ≡ is_some_list xs → old ≡ first_head xs → new ≡ cond begun old (old ++ head_of item) → new ≡ first_head (xs ++ item ∷ [])
  unfolding first_head
  head_more [] begun old new b h put = put ∙ (ap (λ (t : Bool). cond t old (old ++ head_of item)) b ∙ ap (λ (ys : List ℕ). ys ++ head_of item) h)
  head_more (x ∷ xs) begun old new b h put = put ∙ (ap (λ (t : Bool). cond t old (old ++ head_of item)) b ∙ h)

  pub calendar_added : (joining next : Joining) → is_calendar (head_role item) ≡ true → IsJoining joining items → next.begun ≡ true → string_bytes next.head ≡ cond joining.begun (string_bytes joining.head) (string_bytes joining.head ++ head_of item)
      → (AreZones joining.seen.keys (string_bytes joining.zones) (flat_map zones_of (calendars items)) → AreZones next.seen.keys (string_bytes next.zones) (flat_map zones_of (calendars items) ++ zones_of item))
      → (AreChildren (string_bytes joining.children) joining.lengths (flat_map children_in (calendars items)) → AreChildren (string_bytes next.children) next.lengths (flat_map children_in (calendars items) ++ children_in item))
      → string_bytes next.others ≡ string_bytes joining.others → next.longest_other ≡ joining.longest_other → IsJoining next (items ++ item ∷ [])
  calendar_added joining next h is begun head zones children rest longest =
      let more : calendars (items ++ item ∷ []) ≡ calendars items ++ item ∷ [] = calendars_more true h in
      let same : others (items ++ item ∷ []) ≡ others items = others_more true h ∙ append-nil (others items) in
      record {
        begun = begun ∙ (some_more (calendars items) ∙ ap is_some_list (sym more));
        head = head_more (calendars items) joining.begun (string_bytes joining.head) (string_bytes next.head) is.begun is.head head ∙ ap first_head (sym more);
        zones = subst (λ (zs : List (List ℕ)). AreZones next.seen.keys (string_bytes next.zones) zs) (sym (one_more zones_of (calendars items)) ∙ ap (flat_map zones_of) (sym more)) (zones is.zones);
        children = subst (λ (ps : List (List Mark)). AreChildren (string_bytes next.children) next.lengths ps) (sym (one_more children_in (calendars items)) ∙ ap (flat_map children_in) (sym more)) (children is.children);
        others = rest ∙ (is.others ∙ ap all_written (sym same));
        longest_other = λ n. ap (nat_lt n) longest ∙ (is.longest_other n ∙ ap (list_any (λ item. nat_lt n (length (written item)))) (sym same));
      }

end_by : (xs : List (List Mark)) (begun : Bool) (old new : List ℕ) → begun ≡ is_some_list xs → new ≡ cond begun (old ++ folded (codes "END:VCALENDAR")) old → new ≡ old ++ end_of xs
unfolding end_of
end_by [] begun old new b put = put ∙ (ap (λ (t : Bool). cond t (old ++ folded (codes "END:VCALENDAR")) old) b ∙ sym (append-nil old))
end_by (x ∷ xs) begun old new b put = put ∙ ap (λ (t : Bool). cond t (old ++ folded (codes "END:VCALENDAR")) old) b

-- the whole file
pub finished : (joining : Joining) (items : List (List Mark)) (zoned full ended file zones children rest : List ℕ) → IsJoining joining items → zones ≡ string_bytes joining.zones → children ≡ string_bytes joining.children → rest ≡ string_bytes joining.others
    → zoned ≡ string_bytes joining.head ++ zones → full ≡ zoned ++ children → ended ≡ cond joining.begun (full ++ folded (codes "END:VCALENDAR")) full → file ≡ ended ++ rest → file ≡ joined items
unfolding joined
finished joining items zoned full ended file zones children rest is zones_are children_are rest_is a b c d =
    d ∙ (ap (λ (xs : List ℕ). xs ++ rest) (end_by (calendars items) joining.begun full ended is.begun c)
    ∙ (ap (λ (xs : List ℕ). (xs ++ end_of (calendars items)) ++ rest) (b ∙ (ap (λ (xs : List ℕ). xs ++ children) (a ∙ (ap (λ (xs : List ℕ). xs ++ zones) is.head ∙ ap (λ (xs : List ℕ). first_head (calendars items) ++ xs) (zones_are ∙ is.zones.are))) ∙ ap (λ (xs : List ℕ). (first_head (calendars items) ++ all_zones (flat_map zones_of (calendars items))) ++ xs) (children_are ∙ (is.children.are ∙ sym (flat_children (calendars items))))))
    ∙ ap (λ (xs : List ℕ). (((first_head (calendars items) ++ all_zones (flat_map zones_of (calendars items))) ++ flat_map children_of (calendars items)) ++ end_of (calendars items)) ++ xs) (rest_is ∙ is.others)))

-- what stands round the children
pub frame_is : (joining : Joining) (items : List (List Mark)) (zoned full ended zones : List ℕ) (front before behind : ℕ) → IsJoining joining items → zones ≡ string_bytes joining.zones → zoned ≡ string_bytes joining.head ++ zones
    → ended ≡ cond joining.begun (full ++ folded (codes "END:VCALENDAR")) full → front ≡ length zoned → before ≡ length full → behind ≡ length ended → front + (behind - before) ≡ frame_of items
frame_is joining items zoned full ended zones front before behind is zones_are zoned_is ended_is front_is before_is behind_is =
    let first : length zoned ≡ length (first_head (calendars items) ++ all_zones (flat_map zones_of (calendars items))) =
    ap length (zoned_is ∙ (ap (λ (xs : List ℕ). xs ++ zones) is.head ∙ ap (λ (xs : List ℕ). first_head (calendars items) ++ xs) (zones_are ∙ is.zones.are))) in
    let last : length ended ≡ length (full ++ end_of (calendars items)) = ap length (end_by (calendars items) joining.begun full ended is.begun ended_is) in
    omega (arith, first, last, front_is, before_is, behind_is, length-append full (end_of (calendars items)))
