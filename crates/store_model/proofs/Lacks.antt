-- What stands at an href stood there before, or was put there from outside.
use Rattle.std.proofs.Common.{◌≡◌, ◌⊎◌, inl, inr, ℕ, Bool, true, false, not, cond, List, [], ◌∷◌, ◌++◌, Option, Some, None, map, refl, sym, ◌∙◌, subst, ap, append-nil}
use Rattle.std.proofs.lemmas.List.{map-append}
use Rattle.outside.specs.Runs.{Leads}
use Rattle.outside.proofs.Runs.{added, KeepsEvents, Runs-both, Runs-first, Runs-rest, Runs-kind_at}
use Rattle.std.specs.Ordering.{nat_cmp, eq_by_cmp}
use Rattle.std.specs.Cmp.Lexicographic.{slice_cmp, nat_list_cmp_total}
use Rattle.std.specs.Cmp.{Equal-is}
use Rattle.std.specs.FinMap as fin
use Rattle.std.specs.FinMap.{get-insert, get-remove, find, slice_cmp-IsAntisymmetric, nat_cmp-IsAntisymmetric}
use Rattle.std.specs.List.{AllByRecursion}
use Rattle.store_model.specs.declared.event.Held.{Held}
use Rattle.store_model.specs.declared.event.StoreEvent.{StoreEvent}
use Rattle.store_model.specs.declared.event.StoreEvent.TheVariants.{Edited, Toggled, Wrote, Read}
use Rattle.store_model.specs.declared.store.Fetched.{Fetched}
use Rattle.store_model.specs.declared.store.Entry.{Entry}
use Rattle.store_model.specs.StoreCalls.{entry_of}
use Rattle.store_model.specs.Sides.{Content, SideState, put_held, happens, IsTrueEvent, Evolves, IsNoWrite, Since, PutOutside, Lacks, IsTextOf, IsNotOf, IsUntouching, IsAdding, HasNone}
use Rattle.store_model.proofs.Moments.{Evolves-refl, Evolves-trans, Evolves-one, Since-from_evolves}

-- ---- a side keeps all that happens to it

abbrev read_event : List ℕ × List ℕ → StoreEvent
read_event r = Read r.0 r.1

abbrev is_read : StoreEvent → Bool
is_read (Read href text) = true
is_read (Edited href old new) = false
is_read Toggled = false
is_read (Wrote href old new sent) = false

trail_grows : (s : SideState) (e : StoreEvent) → (happens s e).trail ≡ s.trail ++ added (not (is_read e)) e
trail_grows s (Edited href old new) = refl
trail_grows s Toggled = refl
trail_grows s (Wrote href old new sent) = refl
trail_grows s (Read href text) = sym (append-nil s.trail)

reads_grow : (s : SideState) (e : StoreEvent) → map read_event (happens s e).reads ≡ map read_event s.reads ++ added (is_read e) e
reads_grow s (Edited href old new) = sym (append-nil (map read_event s.reads))
reads_grow s Toggled = sym (append-nil (map read_event s.reads))
reads_grow s (Wrote href old new sent) = sym (append-nil (map read_event s.reads))
reads_grow s (Read href text) = map-append read_event s.reads ((href, text) ∷ [])

not_kept : (e : StoreEvent) → not (is_read e) ≡ false → is_read e ≡ true
not_kept (Edited href old new) h = sym h
not_kept Toggled h = sym h
not_kept (Wrote href old new sent) h = sym h
not_kept (Read href text) h = refl

pub side_keeps : KeepsEvents happens
side_keeps = record {
  trail_of = λ s. s.trail;
  reads_of = λ s. map read_event s.reads;
  is_kept = λ e. not (is_read e);
  is_read = is_read;
  trail_grows = trail_grows;
  reads_grow = reads_grow;
  either = not_kept;
}

-- a part of a run of a kind is of that kind
pub Evolves-rest : {Kind : StoreEvent → Type 0} {s m t : SideState} → Evolves Kind s t → Since s m → Since m t → Evolves Kind m t
Evolves-rest whole first second = Runs-rest side_keeps whole first second

pub Evolves-first : {Kind : StoreEvent → Type 0} {s m t : SideState} → Evolves Kind s t → Since s m → Since m t → Evolves Kind s m
Evolves-first whole first second = Runs-first side_keeps whole first second

-- each event of a run of a kind is of that kind
pub kind_at : {Kind : StoreEvent → Type 0} {s m t : SideState} (e : StoreEvent) → Evolves Kind s t → Since s m → IsTrueEvent m e → Since (happens m e) t → Kind e
kind_at e whole first is_true later = Runs-kind_at side_keeps {e = e} whole first is_true later

same_key : (x y : List ℕ) → eq_by_cmp (slice_cmp nat_cmp) x y ≡ true → x ≡ y
same_key x y e = slice_cmp-IsAntisymmetric nat_cmp-IsAntisymmetric x y ((Equal-is (slice_cmp nat_cmp x y)).0 e)

choice : {X : Type 0} (b : Bool) (x y z : X) → z ≡ cond b x y → ((b ≡ true) × (z ≡ x)) ⊎ (z ≡ y)
choice true x y z e = inl (refl, e)
choice false x y z e = inr e

pub get-put_held : (c : Content) (href q : List ℕ) (new : Option Held) → ((q ≡ href) × (fin.get (put_held c href new) q ≡ new)) ⊎ (fin.get (put_held c href new) q ≡ fin.get c q)
get-put_held c href q (Some held) = elim (choice _ (Some held) (fin.get c q) _ (get-insert nat_list_cmp_total c href held q)) [ inl h ↦ inl (same_key q href h.0, h.1) | inr h ↦ inr h ]
get-put_held c href q None = elim (choice _ None (fin.get c q) _ (get-remove nat_list_cmp_total c href q)) [ inl h ↦ inl (same_key q href h.0, h.1) | inr h ↦ inr h ]

one_kept : (s : SideState) (e : StoreEvent) → IsNoWrite e → IsTrueEvent s e → (q : List ℕ) → (fin.get (happens s e).content q ≡ fin.get s.content q) ⊎ PutOutside s (happens s e) q (fin.get (happens s e).content q)
one_kept s (Edited href old new) kind is_true q = elim (get-put_held s.content href q new) [
  | inr same ↦ inl same
  | inl here ↦
      let e : StoreEvent = Edited href old new in
      let put : PutOutside s (happens s e) href new = record { moment = s; old = old; from = Evolves-refl s; is_true = is_true; until = Evolves-refl (happens s e) } in
      inr (subst (λ (k : List ℕ). PutOutside s (happens s e) k (fin.get (happens s e).content q)) (sym here.0) (subst (λ (v : Option Held). PutOutside s (happens s e) href v) (sym here.1) put))
]
one_kept s Toggled kind is_true q = inl refl
one_kept s (Read href text) kind is_true q = inl refl
one_kept s (Wrote href old new sent) kind is_true q = absurd kind

put_extends : {s s' t t' : SideState} {href : List ℕ} {new : Option Held} → Since s s' → PutOutside s' t href new → Since t t' → PutOutside s t' href new
put_extends before put after = record { moment = put.moment; old = put.old; from = Evolves-trans before put.from; is_true = put.is_true; until = Evolves-trans put.until after }

-- without own writes, what stands at an href stood there before, or an edit from outside put it there
kept_by : (s t : SideState) (es : List StoreEvent) → Leads happens IsTrueEvent IsNoWrite s es t → (q : List ℕ) → (fin.get t.content q ≡ fin.get s.content q) ⊎ PutOutside s t q (fin.get t.content q)
kept_by s t [] leads q = inl (ap (λ (x : SideState). fin.get x.content q) leads)
kept_by s t (e ∷ es) leads q =
    let later : Since (happens s e) t = Since-from_evolves {Kind = IsNoWrite} (record { events = es; leads = leads.2 }) in
    elim (kept_by (happens s e) t es leads.2 q) [
      | inl kept ↦ elim (one_kept s e leads.0 leads.1 q) [
        | inl same ↦ inl (kept ∙ same)
        | inr put ↦ inr (subst (λ (v : Option Held). PutOutside s t q v) (sym kept) (put_extends (Evolves-refl s) put later))
      ]
      | inr put ↦ inr (put_extends (Evolves-one s e tt leads.1) put (Evolves-refl t))
    ]

pub kept_or_put : {s t : SideState} → Evolves IsNoWrite s t → (q : List ℕ) → (fin.get t.content q ≡ fin.get s.content q) ⊎ PutOutside s t q (fin.get t.content q)
kept_or_put {s} {t} evolves q = kept_by s t evolves.events evolves.leads q

-- what stands at an href is among what is fetched of all hrefs
find_fetched : (P : Fetched → Type 0) (q : List ℕ) (held : Held) (fs : List Fetched) (es : List (List ℕ × Held)) → map (λ f. f.href) fs ≡ map (λ e. e.0) es → AllByRecursion P fs → find (slice_cmp nat_cmp) q es ≡ Some held → (f : Fetched) × P f × (f.href ≡ q)
find_fetched P q held [] [] same all is = cc
find_fetched P q held (f ∷ fs) [] same all is = cc
find_fetched P q held [] (e ∷ es) same all is = absurd (let clash : [] ≡ e.0 ∷ map (λ (e : List ℕ × Held). e.0) es = same in cc)
find_fetched P q held (f ∷ fs) (e ∷ es) same all is =
    let head : f.href ≡ e.0 = cc in
    let tail : map (λ (f : Fetched). f.href) fs ≡ map (λ (e : List ℕ × Held). e.0) es = cc in
    elim (choice (eq_by_cmp (slice_cmp nat_cmp) q e.0) (Some e.1) (find (slice_cmp nat_cmp) q es) (Some held) (sym is)) [
      | inl here ↦ (f, all.0, head ∙ sym (same_key q e.0 here.0))
      | inr later ↦ find_fetched P q held fs es tail all.1 (sym later)
    ]

both_all : (P Q : Fetched → Type 0) (fs : List Fetched) → AllByRecursion P fs → AllByRecursion Q fs → AllByRecursion (λ f. P f × Q f) fs
both_all P Q [] p q = tt
both_all P Q (f ∷ fs) p q = ((p.0, q.0), both_all P Q fs p.1 q.1)

pub Lacks-extends : {ident : List ℕ} {s s' m : SideState} → Since s s' → Lacks ident s' m → Lacks ident s m
Lacks-extends {ident} {s} {s'} {m} before lacks = record { each = λ href held item stands is_item of_ident. put_extends before (lacks.each href held item stands is_item of_ident) (Evolves-refl m) }

entries_hrefs : (es : List (List ℕ × Held)) → map (λ (e : Entry). e.href) (map entry_of es) ≡ map (λ (e : List ℕ × Held). e.0) es
entries_hrefs [] = refl
entries_hrefs (e ∷ es) = ap (λ (l : List (List ℕ)). e.0 ∷ l) (entries_hrefs es)

-- where no edit from outside touches the ident, the side holds none of an ident that it lacks
pub Lacks-none : {ident : List ℕ} {s m : SideState} → Evolves (IsUntouching ident) s m → Lacks ident s m → HasNone ident m
Lacks-none untouched lacks href held stands text =
    let put = lacks.each href held text.0 stands text.1 text.2 in
    (kind_at (Edited href put.old (Some held)) untouched put.from put.is_true put.until).1 text

stays_one : (ident : List ℕ) (s : SideState) (e : StoreEvent) → IsAdding e → IsUntouching ident e → IsTrueEvent s e → (href : List ℕ) (held : Held) → fin.get s.content href ≡ Some held → IsTextOf ident held.text → fin.get (happens s e).content href ≡ Some held
stays_one ident s (Edited h old new) adding untouched is_true href held stands text = elim (get-put_held s.content h href new) [
  | inr same ↦ same ∙ stands
  | inl here ↦ absurd (let was : old ≡ Some held = is_true ∙ (ap (fin.get s.content) (sym here.0) ∙ stands) in (subst (λ (o : Option Held). IsNotOf ident o) was untouched.0) text)
]
stays_one ident s Toggled adding untouched is_true href held stands text = stands
stays_one ident s (Read h t) adding untouched is_true href held stands text = stands
stays_one ident s (Wrote h old new sent) adding untouched is_true href held stands text = elim (get-put_held s.content h href new) [
  | inr same ↦ same ∙ stands
  | inl here ↦ absurd (let was : None ≡ Some held = sym adding ∙ (is_true.0 ∙ (ap (fin.get s.content) (sym here.0) ∙ stands)) in cc)
]

stays_by : (ident : List ℕ) (s t : SideState) (es : List StoreEvent) → Leads happens IsTrueEvent (λ e. IsAdding e × IsUntouching ident e) s es t → (href : List ℕ) (held : Held) → fin.get s.content href ≡ Some held → IsTextOf ident held.text → fin.get t.content href ≡ Some held
stays_by ident s t [] leads href held stands text = ap (λ (x : SideState). fin.get x.content href) leads ∙ stands
stays_by ident s t (e ∷ es) leads href held stands text =
    stays_by ident (happens s e) t es leads.2 href held (stays_one ident s e leads.0.0 leads.0.1 leads.1 href held stands text) text

-- where no edit from outside touches the ident and writes only add, what the side holds of it stays
pub held_after : {ident : List ℕ} {s t : SideState} → Evolves IsAdding s t → Evolves (IsUntouching ident) s t → (href : List ℕ) (held : Held) → fin.get s.content href ≡ Some held → IsTextOf ident held.text → fin.get t.content href ≡ Some held
held_after {ident} {s} {t} adding untouched href held stands text =
    let both = Runs-both side_keeps adding untouched in
    stays_by ident s t both.events both.leads href held stands text

pub none_before : {ident : List ℕ} {s t : SideState} → Evolves IsAdding s t → Evolves (IsUntouching ident) s t → HasNone ident t → HasNone ident s
none_before adding untouched none href held stands text = none href held (held_after adding untouched href held stands text) text
