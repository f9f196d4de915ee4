-- A get of several hrefs, one after another.
use Rattle.std.proofs.Common.{◌≡◌, ℕ, suc, ◌+◌, ◌<◌, ◌≤◌, length, get_or, take, drop, add-one, drop-cons, List, [], ◌∷◌, ◌++◌, map, inl, inr, refl, Ok, Err, sym, ap, ◌∙◌, subst, append_assoc, append-nil}
use Rattle.std.specs.List.{AllByRecursion}
use Rattle.std.proofs.lemmas.List.{map-append, take-append-drop, take_more, take_all}
use Rattle.std.specs.declared.vec.Vec.{Vec}
use Rattle.std.specs.declared.alloc.Global.{Global}
use Rattle.store_model.specs.Sides.{SideState, Since, Sometime}
use Rattle.store_model.specs.StoreCalls.{WasFetched, HasFault, StopsAt, IsGetOf, GetAnswer, read_of}
use Rattle.store_model.specs.Waits.{In}
use Rattle.store_model.specs.declared.event.StoreEvent.{StoreEvent}
use Rattle.store_model.specs.declared.event.StoreEvent.TheVariants.{Edited, Toggled, Wrote, Read}
use Rattle.store_model.specs.declared.store.Fetched.{Fetched}
use Rattle.store_model.specs.declared.store.StoreError.{StoreError}
use Rattle.store_model.specs.declared.store.StoreError.TheVariants as store_error
use Rattle.store_model.proofs.Moments.{Evolves-refl, Sometime-extends, WasFetched-extends, all_fetched_extends, all_fetched_got}
use Rattle.vdir_store.specs.VdirCalls.{FetchAnswer, GetSoFar}

all_push : (P : Fetched → Type 0) (xs : List Fetched) (x : Fetched) → AllByRecursion P xs → P x → AllByRecursion P (xs ++ x ∷ [])
all_push P [] x a p = (p, tt)
all_push P (y ∷ xs) x a p = (a.0, all_push P xs x a.1 p)

pub get_none : (s : SideState) (given : List Fetched) → given ≡ [] → GetSoFar [] given s s
get_none s given e =
    record {
      asked = ap (map (λ (f : Fetched). f.href)) e;
      fetched = subst (λ (l : List Fetched). AllByRecursion (WasFetched s s) l) (sym e) tt;
      reads = sym (append-nil s.reads) ∙ sym (ap (λ (l : List Fetched). s.reads ++ map read_of l) e);
    }

get_more : (hrefs : List (List ℕ)) (given : List Fetched) (s m t : SideState) (name : List ℕ) (f : Fetched) → Since s m → Since m t → GetSoFar hrefs given s m → FetchAnswer m t name (Ok f) → GetSoFar (hrefs ++ name ∷ []) (given ++ f ∷ []) s t
get_more hrefs given s m t name f first second h k =
    record {
      asked = map-append (λ (f : Fetched). f.href) given (f ∷ []) ∙ λ i. h.asked i ++ k.0 i ∷ [];
      fetched = all_push (WasFetched s t) given f (all_fetched_extends given (Evolves-refl s) h.fetched second) (WasFetched-extends f first k.1 (Evolves-refl t));
      reads = k.2 ∙ (ap (λ l. l ++ read_of f ∷ []) h.reads ∙ (append_assoc s.reads (map read_of given) (read_of f ∷ []) ∙ ap (λ l. s.reads ++ l) (sym (map-append read_of given (f ∷ [])))));
    }

stops : (hrefs all rest : List (List ℕ)) (given : List Fetched) (s m t : SideState) (name : List ℕ) (e : StoreError) → Since s m → Since m t → GetSoFar hrefs given s m → Sometime (HasFault name e) m t → all ≡ hrefs ++ name ∷ rest → StopsAt (λ c. ⊥) s t all e
stops hrefs all rest given s m t name e first second h fault parts =
    record {
      given = given;
      href = name;
      rest = rest;
      asked = parts ∙ ap (λ l. l ++ name ∷ rest) (sym h.asked);
      fetched = all_fetched_got (λ c. ⊥) s t given (all_fetched_extends given (Evolves-refl s) h.fetched second);
      fault = inl (Sometime-extends first fault (Evolves-refl t));
    }

pub get_stops : (hrefs all rest : List (List ℕ)) (given : List Fetched) (s m t : SideState) (name : List ℕ) (e : StoreError) → Since s m → Since m t → GetSoFar hrefs given s m → FetchAnswer m t name (Err e) → all ≡ hrefs ++ name ∷ rest → GetAnswer (λ c. ⊥) s t all (Err e)
get_stops hrefs all rest given s m t name store_error.NoMemory first second h k parts = tt
get_stops hrefs all rest given s m t name store_error.Fault first second h k parts = stops hrefs all rest given s m t name store_error.Fault first second h k parts
get_stops hrefs all rest given s m t name store_error.Moved first second h k parts = stops hrefs all rest given s m t name store_error.Moved first second h k parts
get_stops hrefs all rest given s m t name store_error.TooLong first second h k parts = stops hrefs all rest given s m t name store_error.TooLong first second h k parts
get_stops hrefs all rest given s m t name store_error.TooMany first second h k parts = stops hrefs all rest given s m t name store_error.TooMany first second h k parts
get_stops hrefs all rest given s m t name store_error.NotThere first second h k parts = stops hrefs all rest given s m t name store_error.NotThere first second h k parts
get_stops hrefs all rest given s m t name (store_error.Vanished href) first second h k parts = stops hrefs all rest given s m t name (store_error.Vanished href) first second h k parts
get_stops hrefs all rest given s m t name (store_error.BadItem href error) first second h k parts = stops hrefs all rest given s m t name (store_error.BadItem href error) first second h k parts

-- the hrefs before the i-th, the i-th, and the others
pub at_turn : (all : List (List ℕ)) (i : ℕ) (x name : List ℕ) → i < length all → x ≡ get_or all i x → name ≡ x → all ≡ take i all ++ name ∷ drop (i + 1) all
at_turn all i x name h e same = sym (take-append-drop i all) ∙ ap (λ l. take i all ++ l) (rw (add-one, drop-cons all i x) (ap (λ y. y ∷ drop (suc i) all) (sym (same ∙ e))))

in_middle : (x : List ℕ) (before after : List (List ℕ)) → In x (before ++ x ∷ after)
in_middle x [] after = inl refl
in_middle x (y ∷ before) after = inr (in_middle x before after)

one_of_these : (all : List (List ℕ)) (name : List ℕ) → In name all → (e : StoreEvent) → IsGetOf (name ∷ []) e → IsGetOf all e
one_of_these all name h (Edited href old new) kind = tt
one_of_these all name h Toggled kind = tt
one_of_these all name h (Wrote href old new sent) kind = absurd kind
one_of_these all name h (Read href text) (inl same) = subst (λ (x : List ℕ). In x all) (sym same) h
one_of_these all name h (Read href text) (inr none) = absurd none

-- reading at the i-th of these hrefs is reading at these hrefs
pub get_of_these : (all : List (List ℕ)) (i : ℕ) (x name : List ℕ) → i < length all → x ≡ get_or all i x → name ≡ x → (e : StoreEvent) → IsGetOf (name ∷ []) e → IsGetOf all e
get_of_these all i x name h e same = one_of_these all name (subst (λ (l : List (List ℕ)). In name l) (sym (at_turn all i x name h e same)) (in_middle name (take i all) (drop (i + 1) all)))

one_turn : (all : List (List ℕ)) (i : ℕ) (x name : List ℕ) → i < length all → x ≡ get_or all i x → name ≡ x → take i all ++ name ∷ [] ≡ take (i + 1) all
one_turn all i x name h e same = ap (λ y. take i all ++ y ∷ []) (same ∙ e) ∙ sym (take_more all i x h)

-- one turn of the loop
pub get_turn : (all : List (List ℕ)) (i : ℕ) (x name : List ℕ) (given now : List Fetched) (s m t : SideState) (f : Fetched) → i < length all → x ≡ get_or all i x → name ≡ x → now ≡ given ++ f ∷ [] → Since s m → Since m t → GetSoFar (take i all) given s m → FetchAnswer m t name (Ok f) → GetSoFar (take (i + 1) all) now s t
get_turn all i x name given now s m t f h e same more first second so_far k =
    subst (λ (l : List (List ℕ)). GetSoFar l now s t) (one_turn all i x name h e same) (subst (λ (l : List Fetched). GetSoFar (take i all ++ name ∷ []) l s t) (sym more) (get_more (take i all) given s m t name f first second so_far k))

-- the loop has ended
pub get_end : (all : List (List ℕ)) (i : ℕ) (s t : SideState) (fetched : Vec Fetched Global) → length all ≤ i → GetSoFar (take i all) fetched.items s t → GetAnswer (λ c. ⊥) s t all (Ok fetched)
get_end all i s t fetched h k = (k.asked ∙ take_all i all h, all_fetched_got (λ c. ⊥) s t fetched.items k.fetched, k.reads)

-- the items so far are at the hrefs so far
pub asked_none : (given : List Fetched) → given ≡ [] → map (λ f. f.href) given ≡ []
asked_none given e = ap (map (λ (f : Fetched). f.href)) e

pub asked_turn : (all : List (List ℕ)) (i : ℕ) (x name : List ℕ) (given now : List Fetched) (f : Fetched) → i < length all → x ≡ get_or all i x → name ≡ x → now ≡ given ++ f ∷ [] → map (λ f. f.href) given ≡ take i all → f.href ≡ name → map (λ f. f.href) now ≡ take (i + 1) all
asked_turn all i x name given now f h e same more so named =
    ap (map (λ (f : Fetched). f.href)) more ∙ (map-append (λ (f : Fetched). f.href) given (f ∷ []) ∙ ((λ j. so j ++ named j ∷ []) ∙ one_turn all i x name h e same))

pub asked_end : (all : List (List ℕ)) (i : ℕ) (given : List Fetched) → length all ≤ i → map (λ f. f.href) given ≡ take i all → map (λ f. f.href) given ≡ all
asked_end all i given h so = so ∙ take_all i all h
