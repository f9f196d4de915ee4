-- What was so at a moment of a run stays so when the run goes on.
use Rattle.std.proofs.Common.{◌≡◌, inl, inr, ℕ, List, [], ◌∷◌, Some, Result, Ok, Err, refl, sym, ap, ◌∙◌, rules}
use Rattle.outside.specs.Runs.{Leads}
use Rattle.std.specs.Ordering.{nat_cmp}
use Rattle.std.specs.Cmp.Lexicographic.{slice_cmp}
use Rattle.std.specs.FinMap as fin
use Rattle.std.specs.FinMap.{gets}
use Rattle.outside.proofs.Runs.{Runs-refl, Runs-trans, Runs-weaker, Runs-one, ChangesBy-refl, ChangesBy-trans, ChangesBy-weaker}
use Rattle.store_model.specs.declared.event.Held.{Held}
use Rattle.store_model.specs.declared.event.StoreEvent.{StoreEvent}
use Rattle.store_model.specs.declared.event.StoreEvent.TheVariants.{Edited, Toggled, Wrote, Read}
use Rattle.store_model.specs.StoreCalls.{Changes, IsGetOf, WasFetched, WasGot, StoodOrListed, IsListing, IsListed}
use Rattle.std.specs.declared.vec.Vec.{Vec}
use Rattle.std.specs.declared.alloc.Global.{Global}
use Rattle.store_model.specs.declared.store.Entry.{Entry}
use Rattle.store_model.specs.declared.store.Fetched.{Fetched}
use Rattle.std.specs.List.{AllByRecursion}
use Rattle.store_model.specs.declared.store.StoreError.{StoreError}
use Rattle.store_model.specs.Sides.{Content, SideState, happens, IsTrueEvent, Evolves, IsOutside, IsNoWrite, Since, Sometime, WasRead, Writes, HoldsAt}

-- ---- the lemmas of runs, for sides

pub Evolves-refl : {Kind : StoreEvent → Type 0} (s : SideState) → Evolves Kind s s
Evolves-refl s = Runs-refl s

pub Evolves-trans : {Kind : StoreEvent → Type 0} {s m t : SideState} → Evolves Kind s m → Evolves Kind m t → Evolves Kind s t
Evolves-trans first second = Runs-trans first second

pub Evolves-weaker : {Kind Other : StoreEvent → Type 0} {s t : SideState} → ((e : StoreEvent) → Kind e → Other e) → Evolves Kind s t → Evolves Other s t
Evolves-weaker f evolves = Runs-weaker f evolves

pub Evolves-one : {Kind : StoreEvent → Type 0} (s : SideState) (e : StoreEvent) → Kind e → IsTrueEvent s e → Evolves Kind s (happens s e)
Evolves-one s e kind is_true = Runs-one s e kind is_true

pub Since-from_evolves : {Kind : StoreEvent → Type 0} {s t : SideState} → Evolves Kind s t → Since s t
Since-from_evolves evolves = Evolves-weaker (λ e kind. tt) evolves

pub Sometime-extends : {Was : SideState → Type 0} {s s' t t' : SideState} → Since s s' → Sometime Was s' t → Since t t' → Sometime Was s t'
Sometime-extends before sometime after =
    record {
      moment = sometime.moment;
      from = Evolves-trans before sometime.from;
      until = Evolves-trans sometime.until after;
      was = sometime.was;
    }

pub Sometime-weaker : {Was Other : SideState → Type 0} {s t : SideState} → ((m : SideState) → Was m → Other m) → Sometime Was s t → Sometime Other s t
Sometime-weaker f sometime =
    record { moment = sometime.moment; from = sometime.from; until = sometime.until; was = f sometime.moment sometime.was }

pub WasRead-extends : {s s' t t' : SideState} {text : List ℕ} → Since s s' → WasRead s' t text → Since t t' → WasRead s t' text
WasRead-extends before read after =
    record {
      moment = read.moment;
      href = read.href;
      from = Evolves-trans before read.from;
      is_true = read.is_true;
      until = Evolves-trans read.until after;
    }

-- a run with one own write of a kind is a run of that kind
pub Writes-evolves : {Kind : StoreEvent → Type 0} {e : StoreEvent} {s t : SideState} → ((x : StoreEvent) → IsOutside x → Kind x) → Kind e → Writes e s t → Evolves Kind s t
Writes-evolves {Kind} {e} outside kind writes =
    Evolves-trans (Evolves-weaker outside writes.before)
    (Evolves-trans (Evolves-one writes.moment e kind writes.is_true) (Evolves-weaker outside writes.after))

pub get-inserted : (m : fin.FinMap (slice_cmp nat_cmp) Held) (k : List ℕ) (v : Held) → fin.get (fin.insert m k v) k ≡ Some v
get-inserted m k v = grind (gets, rules)

pub outside_is_no_write : (e : StoreEvent) → IsOutside e → IsNoWrite e
outside_is_no_write (Edited href old new) h = tt
outside_is_no_write Toggled h = tt
outside_is_no_write (Wrote href old new sent) h = h
outside_is_no_write (Read href text) h = tt

pub get_is_no_write : (hrefs : List (List ℕ)) (e : StoreEvent) → IsGetOf hrefs e → IsNoWrite e
get_is_no_write hrefs (Edited href old new) h = tt
get_is_no_write hrefs Toggled h = tt
get_is_no_write hrefs (Wrote href old new sent) h = h
get_is_no_write hrefs (Read href text) h = tt

pub Changes-refl : {S : Type 0} {count : S → ℕ} {tells : S → Type 0} {side : S → SideState} {Kind : StoreEvent → Type 0} (s : S) → Changes count tells side Kind s s
Changes-refl s = ChangesBy-refl s

pub Changes-trans : {S : Type 0} {count : S → ℕ} {tells : S → Type 0} {side : S → SideState} {Kind : StoreEvent → Type 0} {s m t : S} → Changes count tells side Kind s m → Changes count tells side Kind m t → Changes count tells side Kind s t
Changes-trans first second = ChangesBy-trans first second

pub Changes-weaker : {S : Type 0} {count : S → ℕ} {tells : S → Type 0} {side : S → SideState} {Kind Other : StoreEvent → Type 0} {s t : S} → ((e : StoreEvent) → Kind e → Other e) → Changes count tells side Kind s t → Changes count tells side Other s t
Changes-weaker f changes = ChangesBy-weaker f changes

-- what a store's changes since a call leave of a moment
pub Since-from_changes : {S : Type 0} {count : S → ℕ} {tells : S → Type 0} {side : S → SideState} {Kind : StoreEvent → Type 0} {s t : S} → Changes count tells side Kind s t → tells s → Since (side s) (side t)
Since-from_changes changes told = Since-from_evolves (changes.told told).1

pub WasFetched-extends : {s s' t t' : SideState} (f : Fetched) → Since s s' → WasFetched s' t f → Since t t' → WasFetched s t' f
WasFetched-extends f before fetched after =
    record { is_item = fetched.is_item; stood = Sometime-extends before fetched.stood after; was_read = WasRead-extends before fetched.was_read after }

pub all_fetched_extends : {s s' t t' : SideState} (fs : List Fetched) → Since s s' → AllByRecursion (WasFetched s' t) fs → Since t t' → AllByRecursion (WasFetched s t') fs
all_fetched_extends [] before all after = tt
all_fetched_extends (f ∷ fs) before all after = (WasFetched-extends f before all.0 after, all_fetched_extends fs before all.1 after)

pub ruleset moments = (Changes-refl, Changes-trans)

-- edits from outside read nothing
pub outside_keeps_reads : {s t : SideState} → Evolves IsOutside s t → t.reads ≡ s.reads
outside_keeps_reads {s} {t} run = by s run.events run.leads
  where
    one : (s : SideState) (e : StoreEvent) → IsOutside e → (happens s e).reads ≡ s.reads
    one s (Edited href old new) kind = refl
    one s Toggled kind = refl
    one s (Wrote href old new sent) kind = refl
    one s (Read href text) kind = absurd kind

    by : (s : SideState) (es : List StoreEvent) → Leads happens IsTrueEvent IsOutside s es t → t.reads ≡ s.reads
    by s [] leads = ap (λ (x : SideState). x.reads) leads
    by s (e ∷ es) leads = by (happens s e) es leads.2 ∙ one s e leads.0

-- what was got of a listing stood at the moment of the listing or later
WasGot-fetched : (recalls : Content → Type 0) (listed got t : SideState) → Since listed got → Since got t → ((c : Content) → recalls c → c ≡ listed.content) → (f : Fetched) → WasGot recalls got t f → WasFetched listed t f
WasGot-fetched recalls listed got t before after same f was =
    record {
      is_item = was.is_item;
      stood = stood was.stood;
      was_read = WasRead-extends before was.was_read (Evolves-refl t);
    }
  where
    stood : StoodOrListed recalls (HoldsAt f.href (record { etag = f.etag; text = f.item.text })) got t → Sometime (HoldsAt f.href (record { etag = f.etag; text = f.item.text })) listed t
    stood (inl sometime) = Sometime-extends before sometime (Evolves-refl t)
    stood (inr (m, recalled, holds)) = record { moment = listed; from = Evolves-refl listed; until = Evolves-trans before after; was = ap (λ (c : Content). fin.get c f.href) (sym (same m.content recalled)) ∙ holds }

pub all_got_fetched : (recalls : Content → Type 0) (listed got t : SideState) (fs : List Fetched) → Since listed got → Since got t → ((c : Content) → recalls c → c ≡ listed.content) → AllByRecursion (WasGot recalls got t) fs → AllByRecursion (WasFetched listed t) fs
all_got_fetched recalls listed got t [] before after same all = tt
all_got_fetched recalls listed got t (f ∷ fs) before after same all = (WasGot-fetched recalls listed got t before after same f all.0, all_got_fetched recalls listed got t fs before after same all.1)

-- (for stores whose get reads anew) what was fetched was got, and what was listed needs not be recalled
pub all_fetched_got : (recalls : Content → Type 0) (s t : SideState) (fs : List Fetched) → AllByRecursion (WasFetched s t) fs → AllByRecursion (WasGot recalls s t) fs
all_fetched_got recalls s t [] all = tt
all_fetched_got recalls s t (f ∷ fs) all = (record { is_item = all.0.is_item; stood = inl all.0.stood; was_read = all.0.was_read }, all_fetched_got recalls s t fs all.1)

pub listed_anew : (recalls : Content → Type 0) (s t : SideState) (result : Result (Vec Entry Global) StoreError) → ((c : Content) → recalls c → ⊥) → Sometime (IsListing result) s t → Sometime (IsListed recalls result) s t
listed_anew recalls s t (Ok entries) never h = record { moment = h.moment; from = h.from; until = h.until; was = (h.was, λ c r. absurd (never c r)) }
listed_anew recalls s t (Err e) never h = record { moment = h.moment; from = h.from; until = h.until; was = h.was }
