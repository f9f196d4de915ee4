-- Where the first slot of a location is, and what changes when it is written.
use Rattle.std.proofs.Common.{◌≡◌, ◌≢◌, ℕ, zero, suc, ◌+◌, ◌<◌, List, [], ◌∷◌, ◌++◌, Option, Some, None, Bool, true, false, if◌then◌else◌, drop, length, get_or, set, refl, ap, sym, ◌∙◌, subst}
use Rattle.std.specs.Str.{bytes_eq}
use Rattle.std.specs.Option.{option_map}
use Rattle.std.proofs.lemmas.List.{drop_more}
use Rattle.std.proofs.lemmas.Slice.Eq.{bytes_eq-Decides}
use Rattle.outfits.specs.declared.slots.Slot.{Slot}
use Rattle.outfits.specs.Places.{ChangesOnly, IsSame, StayTold, GiveTold}
use Rattle.outfits.specs.Slots.{IsAt, IsAbsent, held_at, place_held, places_of, told_held, tells_of}

pub at_first : {D : Type 0} (slots : List (Slot D)) (path : List ℕ) (i : ℕ) (s : Slot D) → i < length slots → s ≡ get_or slots i s → bytes_eq s.path path ≡ true → IsAt (drop i slots) path 0
at_first slots path i s l e h =
    subst (λ ss. IsAt ss path 0) (sym (drop_more slots i s l)) (subst (λ (x : Slot _). bytes_eq x.path path ≡ true) e h)

pub at_next : {D : Type 0} (slots : List (Slot D)) (path : List ℕ) (i k : ℕ) (s : Slot D) → i < length slots → s ≡ get_or slots i s → bytes_eq s.path path ≡ false → IsAt (drop (i + 1) slots) path k → IsAt (drop i slots) path (suc k)
at_next slots path i k s l e h r =
    subst (λ ss. IsAt ss path (suc k)) (sym (drop_more slots i s l)) (subst (λ (x : Slot _). bytes_eq x.path path ≡ false) e h, r)

pub absent_next : {D : Type 0} (slots : List (Slot D)) (path : List ℕ) (i : ℕ) (s : Slot D) → i < length slots → s ≡ get_or slots i s → bytes_eq s.path path ≡ false → IsAbsent (drop (i + 1) slots) path → IsAbsent (drop i slots) path
absent_next slots path i s l e h r =
    subst (λ ss. IsAbsent ss path) (sym (drop_more slots i s l)) (subst (λ (x : Slot _). bytes_eq x.path path ≡ false) e h, r)

not_true : (b : Bool) → (b ≡ true → ⊥) → b ≡ false
not_true true h = absurd (h refl)
not_true false h = refl

pub same_bytes : (p q : List ℕ) → bytes_eq p q ≡ true → p ≡ q
same_bytes p q h = (bytes_eq-Decides p q).0 h

pub eq_itself : (p : List ℕ) → bytes_eq p p ≡ true
eq_itself p = (bytes_eq-Decides p p).1 refl

pub other_bytes : (p q : List ℕ) → q ≢ p → bytes_eq p q ≡ false
other_bytes p q h = not_true (bytes_eq p q) (λ e. h (sym (same_bytes p q e)))

pub other_is_other : (p q : List ℕ) → bytes_eq q p ≡ false → q ≢ p
other_is_other p q d s = different (sym d ∙ (bytes_eq-Decides q p).1 s) where
  different : false ≡ true → ⊥
  different x = cc

-- what is put there stood there
pub same_from_changes : {P : Type 0} (old new : List ℕ → Option P) (path : List ℕ) (v : Option P) → old path ≡ v → ChangesOnly old new path v → IsSame old new
same_from_changes old new path v e h q = decided (bytes_eq q path) refl where
  decided : (b : Bool) → bytes_eq q path ≡ b → new q ≡ old q
  decided true d = let s : q ≡ path = same_bytes q path d in rw s (h.here ∙ sym e)
  decided false d = h.others q (other_is_other path q d)

module _ {D : Type 0} where
  pub held-absent : (slots : List (Slot D)) (path : List ℕ) → IsAbsent slots path → held_at slots path ≡ None
  held-absent [] path h = refl
  held-absent (s ∷ ss) path h = rw h.0 (held-absent ss path h.1)

  pub held-at : (slots : List (Slot D)) (path : List ℕ) (i : ℕ) (s : Slot D) → IsAt slots path i → s ≡ get_or slots i s → held_at slots path ≡ Some s.held
  held-at [] path i s h e = absurd h
  held-at (x ∷ xs) path zero s h e = rw (h, e) refl
  held-at (x ∷ xs) path (suc i) s h e = rw h.0 (held-at xs path i s h.1 e)

  pub path_at : (slots : List (Slot D)) (path : List ℕ) (i : ℕ) (s : Slot D) → IsAt slots path i → s ≡ get_or slots i s → s.path ≡ path
  path_at [] path i s h e = absurd h
  path_at (x ∷ xs) path zero s h e = ap (λ (y : Slot D). y.path) e ∙ same_bytes x.path path h
  path_at (x ∷ xs) path (suc i) s h e = path_at xs path i s h.1 e

  set_here : (slots : List (Slot D)) (path : List ℕ) (i : ℕ) (n : Slot D) → IsAt slots path i → n.path ≡ path → held_at (set slots i n) path ≡ Some n.held
  set_here [] path i n h p = absurd h
  set_here (x ∷ xs) path zero n h p = rw (p, eq_itself) refl
  set_here (x ∷ xs) path (suc i) n h p = rw h.0 (set_here xs path i n h.1 p)

  set_others : (slots : List (Slot D)) (path : List ℕ) (i : ℕ) (n : Slot D) (q : List ℕ) → q ≢ path → IsAt slots path i → n.path ≡ path → held_at (set slots i n) q ≡ held_at slots q
  set_others [] path i n q d h p = absurd h
  set_others (x ∷ xs) path zero n q d h p = rw (p, same_bytes x.path path h, other_bytes path q d) refl
  set_others (x ∷ xs) path (suc i) n q d h p = ap (λ r. if bytes_eq x.path q then Some x.held else r) (set_others xs path i n q d h.1 p)

  -- the first slot of a location is written
  pub held-set : (slots : List (Slot D)) (path : List ℕ) (i : ℕ) (n : Slot D) → IsAt slots path i → n.path ≡ path → ChangesOnly (held_at slots) (held_at (set slots i n)) path (Some n.held)
  held-set slots path i n h p = record { here = set_here slots path i n h p; others = λ q d. set_others slots path i n q d h p }

  push_here : (slots : List (Slot D)) (path : List ℕ) (n : Slot D) → IsAbsent slots path → n.path ≡ path → held_at (slots ++ n ∷ []) path ≡ Some n.held
  push_here [] path n h p = rw (p, eq_itself) refl
  push_here (x ∷ xs) path n h p = rw h.0 (push_here xs path n h.1 p)

  push_others : (slots : List (Slot D)) (path : List ℕ) (n : Slot D) (q : List ℕ) → q ≢ path → n.path ≡ path → held_at (slots ++ n ∷ []) q ≡ held_at slots q
  push_others [] path n q d p = rw (p, other_bytes path q d) refl
  push_others (x ∷ xs) path n q d p = ap (λ r. if bytes_eq x.path q then Some x.held else r) (push_others xs path n q d p)

  -- the slot of a location that has none is put behind the others
  pub held-push : (slots : List (Slot D)) (path : List ℕ) (n : Slot D) → IsAbsent slots path → n.path ≡ path → ChangesOnly (held_at slots) (held_at (slots ++ n ∷ [])) path (Some n.held)
  held-push slots path n h p = record { here = push_here slots path n h p; others = λ q d. push_others slots path n q d p }

  -- the places change where what is held changes
  pub places_change : {P : Type 0} (place_of : D → P) (blank : P) (old new : List (Slot D)) (path : List ℕ) (held : Option D) → ChangesOnly (held_at old) (held_at new) path (Some held) → ChangesOnly (places_of place_of blank old) (places_of place_of blank new) path (option_map place_of held)
  places_change place_of blank old new path held h = record {
    here = ap (λ o. place_held place_of blank o) h.here;
    others = λ q d. ap (λ o. place_held place_of blank o) (h.others q d);
  }

  -- a place that goes out keeps nothing back
  pub taken_told : (tells : D → Type 0) (blank : Type 0) (old new : List (Slot D)) (path : List ℕ) → ChangesOnly (held_at old) (held_at new) path (Some None) → StayTold (tells_of tells blank old) (tells_of tells blank new)
  taken_told tells blank old new path h q t = decided (bytes_eq q path) refl where
    decided : (b : Bool) → bytes_eq q path ≡ b → tells_of tells blank new q
    decided true d = let s : q ≡ path = same_bytes q path d in subst (λ o. told_held tells blank o) (sym (ap (held_at new) s ∙ h.here)) tt
    decided false d = subst (λ o. told_held tells blank o) (sym (h.others q (other_is_other path q d))) t

  pub given_told : (tells : D → Type 0) (blank : Type 0) (old new : List (Slot D)) (path : List ℕ) (dir : D) → ChangesOnly (held_at old) (held_at new) path (Some (Some dir)) → GiveTold (tells_of tells blank old) (tells_of tells blank new) path (tells dir)
  given_told tells blank old new path dir h = record {
    here = λ t. subst (λ o. told_held tells blank o) (sym h.here) t;
    others = λ q d t. subst (λ o. told_held tells blank o) (sym (h.others q d)) t;
  }
