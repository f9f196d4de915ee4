-- What a store knows of its side stays true until an edit from outside comes.
use Rattle.std.proofs.Common.{◌≡◌, ◌⊎◌, inl, inr, ℕ, Bool, true, false, cond, List, [], ◌∷◌, Option, Some, None, is_none, map, Result, Ok, Err, ◌&&◌, ◌||◌, refl, sym, ◌∙◌, subst, ap}
use Rattle.std.specs.Ordering.{nat_cmp}
use Rattle.std.specs.Cmp.Lexicographic.{slice_cmp}
use Rattle.std.specs.FinMap as fin
use Rattle.std.specs.FinMap.{get-entries, find}
use Rattle.std.specs.List.{list_any}
use Rattle.std.specs.Str.{bytes_eq}
use Rattle.std.proofs.lemmas.Bool.{false≢true}
use Rattle.std.proofs.lemmas.Map.Text.{is_eq-slice_cmp}
use Rattle.std.proofs.lemmas.Slice.Eq.{bytes_eq-Decides}
use Rattle.std.specs.declared.vec.Vec.{Vec}
use Rattle.std.specs.declared.alloc.Global.{Global}
use Rattle.outside.specs.Runs.{Leads}
use Rattle.item_text.specs.Items.{ItemValue}
use Rattle.store_model.specs.declared.event.Held.{Held}
use Rattle.store_model.specs.declared.event.StoreEvent.{StoreEvent}
use Rattle.store_model.specs.declared.event.StoreEvent.TheVariants.{Edited, Toggled, Wrote, Read}
use Rattle.store_model.specs.declared.store.Entry.{Entry}
use Rattle.store_model.specs.declared.store.Put.{Put}
use Rattle.store_model.specs.declared.store.StoreError.{StoreError}
use Rattle.store_model.specs.declared.store.StoreError.TheVariants.{Fault, Moved, TooLong, TooMany, NotThere, Vanished, BadItem, NoMemory}
use Rattle.store_model.specs.Sides.{Content, SideState, put_held, happens, IsTrueEvent, Evolves, IsOutside, IsNoWrite, Since, Sometime, WasEdited}
use Rattle.store_model.specs.Waits.{Change, fits, new_at, Acts}
use Rattle.store_model.specs.StoreCalls.{entry_of, IsListed, TakenByList, TakenByPut, IsKnown, KnownAfterPut, PutNewAnswer}
use Rattle.store_model.proofs.Moments.{Evolves-refl, Evolves-trans, Evolves-one, Since-from_evolves}
use Rattle.store_model.proofs.Lacks.{Evolves-first, get-put_held}

pub edited_extends : {s s' t t' : SideState} → Since s s' → WasEdited s' t → Since t t' → WasEdited s t'
edited_extends before edited after = record { moment = edited.moment; event = edited.event; from = Evolves-trans before edited.from; is_outside = edited.is_outside; is_true = edited.is_true; until = Evolves-trans edited.until after }

edited_first : (s : SideState) (e : StoreEvent) (t : SideState) → IsOutside e → IsTrueEvent s e → Since (happens s e) t → WasEdited s t
edited_first s e t outside is_true later = record { moment = s; event = e; from = Evolves-refl s; is_outside = outside; is_true = is_true; until = later }

-- edits from outside that are none change nothing
pub still_or_edited : {s t : SideState} → Evolves IsOutside s t → (t ≡ s) ⊎ WasEdited s t
still_or_edited {s} {t} run = by s run.events run.leads
  where
    by : (s : SideState) (es : List StoreEvent) → Leads happens IsTrueEvent IsOutside s es t → (t ≡ s) ⊎ WasEdited s t
    by s [] leads = inl leads
    by s (e ∷ es) leads = inr (edited_first s e t leads.0 leads.1 (Since-from_evolves {Kind = IsOutside} (record { events = es; leads = leads.2 })))

-- what a side holds, and whether it is there
abbrev pub Holds_same : SideState → SideState → Type 0
Holds_same s t = (t.content ≡ s.content) × (t.is_there ≡ s.is_there)

-- without own writes a side holds what it held, unless an edit from outside came
pub same_or_edited : {s t : SideState} → Evolves IsNoWrite s t → Holds_same s t ⊎ WasEdited s t
same_or_edited {s} {t} run = by s run.events run.leads
  where
    by : (s : SideState) (es : List StoreEvent) → Leads happens IsTrueEvent IsNoWrite s es t → Holds_same s t ⊎ WasEdited s t
    by s [] leads = inl (ap (λ (x : SideState). x.content) leads, ap (λ (x : SideState). x.is_there) leads)
    by s (Edited href old new ∷ es) leads = inr (edited_first s (Edited href old new) t tt leads.1 (Since-from_evolves {Kind = IsNoWrite} (record { events = es; leads = leads.2 })))
    by s (Toggled ∷ es) leads = inr (edited_first s Toggled t tt leads.1 (Since-from_evolves {Kind = IsNoWrite} (record { events = es; leads = leads.2 })))
    by s (Wrote href old new sent ∷ es) leads = absurd leads.0
    by s (Read href text ∷ es) leads = elim (by (happens s (Read href text)) es leads.2) [
      | inl same ↦ inl same
      | inr edited ↦ inr (edited_extends (Evolves-one s (Read href text) tt leads.1) edited (Evolves-refl t))
    ]

either_false : (a b : Bool) → (a || b) ≡ false → (a ≡ false) × (b ≡ false)
either_false true b h = absurd (false≢true (sym h))
either_false false b h = (refl, h)

unlisted : (q : List ℕ) (es : List (List ℕ × Held)) → list_any (λ (e : Entry). bytes_eq q e.href) (map entry_of es) ≡ false → find (slice_cmp nat_cmp) q es ≡ None
unlisted q [] h = refl
unlisted q (e ∷ es) h =
    let both = either_false (bytes_eq q e.0) (list_any (λ (e : Entry). bytes_eq q e.href) (map entry_of es)) h in
    ap (λ (b : Bool). cond b (Some e.1) (find (slice_cmp nat_cmp) q es)) (is_eq-slice_cmp q e.0 ∙ both.0) ∙ unlisted q es both.1

-- after a listing the side is known, unless an edit from outside came
pub listed_known : (recalls : Content → Type 0) (had has : List ℕ → Bool) (s t : SideState) (entries : Vec Entry Global) → Evolves IsOutside s t → Sometime (IsListed recalls (Ok entries)) s t → TakenByList had has (Ok entries) → WasEdited s t ⊎ IsKnown has t
listed_known recalls had has s t entries run listed takes = elim (still_or_edited run) [
  | inr edited ↦ inl edited
  | inl same ↦ elim (still_or_edited (Evolves-first run listed.from listed.until)) [
    | inr edited ↦ inl (edited_extends (Evolves-refl s) edited listed.until)
    | inl at ↦
        let here : t ≡ listed.moment = same ∙ sym at in
        inr (record {
          there = ap (λ (x : SideState). x.is_there) here ∙ listed.was.0.0;
          covers = λ q free. ap (λ (x : SideState). fin.get x.content q) here ∙ (get-entries listed.moment.content q ∙ unlisted q (fin.entries listed.moment.content) (ap (list_any (λ (e : Entry). bytes_eq q e.href)) (sym listed.was.0.1) ∙ (sym (takes q) ∙ free)));
        })
  ]
]

-- and it stays known while it is read
pub known_still : (had has : List ℕ → Bool) (s t : SideState) → Evolves IsNoWrite s t → ((q : List ℕ) → has q ≡ had q) → IsKnown had s → WasEdited s t ⊎ IsKnown has t
known_still had has s t run same known = elim (same_or_edited run) [
  | inr edited ↦ inl edited
  | inl still ↦ inr (record { there = still.1 ∙ known.there; covers = λ q free. ap (λ (c : Content). fin.get c q) still.0 ∙ known.covers q (sym (same q) ∙ free) })
]

pub read_known : (had has : List ℕ → Bool) (s m t : SideState) → Evolves IsNoWrite m t → ((q : List ℕ) → has q ≡ had q) → WasEdited s m ⊎ IsKnown had m → Since s m → WasEdited s t ⊎ IsKnown has t
read_known had has s m t run same (inl edited) before = inl (edited_extends (Evolves-refl s) edited (Since-from_evolves run))
read_known had has s m t run same (inr known) before = elim (known_still had has m t run same known) [ inl edited ↦ inl (edited_extends before edited (Evolves-refl t)) | inr still ↦ inr still ]

put_covers : (taken taken' : List ℕ → Bool) (href : List ℕ) (new : Option Held) (s : SideState) → ((q : List ℕ) → taken' q ≡ (bytes_eq href q || taken q)) → IsKnown taken s → (q : List ℕ) → taken' q ≡ false → fin.get (put_held s.content href new) q ≡ None
put_covers taken taken' href new s takes known q free =
    let both = either_false (bytes_eq href q) (taken q) (sym (takes q) ∙ free) in
    elim (get-put_held s.content href q new) [
      | inl here ↦ absurd (false≢true (sym both.0 ∙ (bytes_eq-Decides href q).1 (sym here.0)))
      | inr same ↦ same ∙ known.covers q both.1
    ]

acted_known : (taken taken' : List ℕ → Bool) (c : Change) (s t : SideState) → ((q : List ℕ) → taken' q ≡ (bytes_eq c.href q || taken q)) → IsKnown taken s → Acts c s t → WasEdited s t ⊎ IsKnown taken' t
acted_known taken taken' c s t takes known acts =
    let e : StoreEvent = Wrote c.href acts.old acts.new c.sent in
    let w = acts.writes in
    elim (still_or_edited w.before) [
      | inr edited ↦ inl (edited_extends (Evolves-refl s) edited (Evolves-trans (Evolves-one w.moment e tt w.is_true) (Since-from_evolves w.after)))
      | inl at ↦ elim (still_or_edited w.after) [
        | inr edited ↦ inl (edited_extends (Evolves-trans (Since-from_evolves w.before) (Evolves-one w.moment e tt w.is_true)) edited (Evolves-refl t))
        | inl end ↦
            let now : t ≡ happens s e = end ∙ ap (λ (x : SideState). happens x e) at in
            inr (record { there = ap (λ (x : SideState). x.is_there) now ∙ known.there; covers = λ q free. ap (λ (x : SideState). fin.get x.content q) now ∙ put_covers taken taken' c.href acts.new s takes known q free })
      ]
    ]

free_fits : (taken : List ℕ → Bool) (href text : List ℕ) (m : SideState) → IsKnown taken m → taken href ≡ false → fits (new_at href text) m ≡ true
free_fits taken href text m known free = ap (λ (b : Bool). b && is_none (fin.get m.content href)) known.there ∙ ap (λ (o : Option Held). is_none o) (known.covers href free)

moved_edited : (taken : List ℕ → Bool) (href text : List ℕ) (s t : SideState) → IsKnown taken s → taken href ≡ false → Evolves IsOutside s t → Sometime (λ m. fits (new_at href text) m ≡ false) s t → WasEdited s t
moved_edited taken href text s t known free run moved = elim (still_or_edited (Evolves-first run moved.from moved.until)) [
  | inr edited ↦ edited_extends (Evolves-refl s) edited moved.until
  | inl at ↦ absurd (false≢true (sym moved.was ∙ (ap (fits (new_at href text)) at ∙ free_fits taken href text s known free)))
]

known_by : (may : List ℕ → Type 0) (taken taken' : List ℕ → Bool) (item : ItemValue) (s t : SideState) (w w' : List Change) (result : Result Put StoreError) → ((href : List ℕ) → may href → taken href ≡ false) → TakenByPut taken taken' result → PutNewAnswer false may item s w t w' result → IsKnown taken s → KnownAfterPut s taken' t result
known_by may taken taken' item s t w w' (Ok put) free takes answer known = acted_known taken taken' (new_at put.href item.text) s t takes known answer.1.0
known_by may taken taken' item s t w w' (Err Moved) free takes answer known = moved_edited taken answer.0 item.text s t known (free answer.0 answer.1) answer.2.0 answer.2.1
known_by may taken taken' item s t w w' (Err Fault) free takes answer known = tt
known_by may taken taken' item s t w w' (Err NoMemory) free takes answer known = tt
known_by may taken taken' item s t w w' (Err TooLong) free takes answer known = answer
known_by may taken taken' item s t w w' (Err TooMany) free takes answer known = answer
known_by may taken taken' item s t w w' (Err NotThere) free takes answer known = answer
known_by may taken taken' item s t w w' (Err (Vanished href)) free takes answer known = answer
known_by may taken taken' item s t w w' (Err (BadItem href error)) free takes answer known = answer

-- (for stores whose writes don't wait) a side that is known stays so when a new item is put
pub known_after_put : (waits : Bool) (may : List ℕ → Type 0) (taken taken' : List ℕ → Bool) (item : ItemValue) (s t : SideState) (w w' : List Change) (result : Result Put StoreError) → waits ≡ false → ((href : List ℕ) → may href → taken href ≡ false) → TakenByPut taken taken' result → PutNewAnswer waits may item s w t w' result → IsKnown taken s → KnownAfterPut s taken' t result
known_after_put waits may taken taken' item s t w w' result e free takes answer known = known_by may taken taken' item s t w w' result free takes (subst (λ (b : Bool). PutNewAnswer b may item s w t w' result) e answer) known
