-- A run of a ready job that nothing disturbs doesn't stop while it reads, but by want of memory.
use Rattle.std.proofs.Common.{◌≡◌, ◌≤◌, inl, inr, ℕ, Bool, true, false, cond, List, [], ◌∷◌, ◌++◌, map, filter, length, Some, None, Ok, Err, refl, sym, ap, ◌∙◌, subst, arith}
use Rattle.std.specs.Result.{result_ok}
use Rattle.std.specs.List.{list_all}
use Rattle.std.specs.FinMap as fin
use Rattle.std.specs.FinMap.{get-entries, find}
use Rattle.std.specs.Ordering.{nat_cmp, eq_by_cmp}
use Rattle.std.specs.Cmp.Lexicographic.{slice_cmp}
use Rattle.std.proofs.lemmas.Bool.{false≢true}
use Rattle.std.proofs.lemmas.Map.Text.{is_eq-slice_cmp}
use Rattle.std.proofs.lemmas.Slice.Eq.{bytes_eq-Decides}
use Rattle.std.specs.declared.vec.Vec.{Vec}
use Rattle.std.specs.declared.alloc.Global.{Global}
use Rattle.outside.specs.Runs.{Anything}
use Rattle.outside.proofs.Runs.{Runs-refl}
use Rattle.item_text.specs.Items.{ItemValue, item_of, read_item}
use Rattle.item_text.specs.declared.item.ItemError.{ItemError}
use Rattle.store_model.specs.declared.event.Held.{Held}
use Rattle.store_model.specs.declared.store.Entry.{Entry}
use Rattle.store_model.specs.declared.store.Fetched.{Fetched}
use Rattle.store_model.specs.declared.store.StoreError.{StoreError}
use Rattle.store_model.specs.declared.store.StoreError.TheVariants as store
use Rattle.store_model.specs.Sides.{Content, SideState, Evolves, IsNoWrite, Since, WasEdited}
use Rattle.store_model.specs.StoreCalls.{entry_of, is_short, IsListing, HasFault}
use Rattle.store_model.proofs.Moments.{Evolves-refl, Evolves-trans, Evolves-weaker, Since-from_evolves, outside_is_no_write}
use Rattle.store_model.proofs.Known.{Holds_same}
use Rattle.status_keeper.specs.declared.row.Row.{Row}
use Rattle.status_keeper.specs.declared.keeper.KeeperError.{KeeperError}
use Rattle.status_keeper.specs.declared.keeper.KeeperError.TheVariants as keeper
use Rattle.status_keeper.specs.Kept.{KeeperState}
use Rattle.status_keeper.specs.Kept as status
use Rattle.sync_plan.specs.declared.report.Side.{Side}
use Rattle.sync_plan.specs.declared.report.Side.TheVariants.{A, B}
use Rattle.sync_plan.specs.Merging.{Within}
use Rattle.side_reads.specs.Holdings.{is_unknown, asked}
use Rattle.job_reads.specs.declared.stop.Stop.{Stop}
use Rattle.job_reads.specs.declared.stop.Stop.TheVariants as stop
use Rattle.job_reads.specs.Readings.{Span, Lists, ListFails, StopsFetching, FetchFails, FetchAnswers, Loads, LoadFails, emptied_side, IsStop}
use Rattle.job_writes.specs.Writings.{AtSide}
use Rattle.sync_plan.specs.declared.report.JobEnd.{JobEnd}
use Rattle.sync_plan.specs.declared.report.JobEnd.TheVariants.{NoMemory}
use Rattle.sync_plan.specs.declared.report.Report.{Report}
use Rattle.sync_run.specs.Lines.{IsCausedEnd}
use Rattle.sync_run.specs.Ends.{end_of_reading, end_of_load, end_of_stop, Stops}
use Rattle.sync_run.specs.Quiet.{IsQuiet, IsQuietEnd, IsDisturbed}
use Rattle.sync_run.specs.Ready.{IsReadySide, IsReady}
use Rattle.sync_run.proofs.CalmLemmas.{calm_same, calm_loaded}

-- ---- the status

-- what was loaded is what is kept
pub loaded_is : {s k t : KeeperState} (found : Vec Row Global) (rows : List Row) → (IsDisturbed s t → ⊥) → Loads s k found → status.Evolves Anything k t → s.kept ≡ Ok rows → (k ≡ s) × (found.items ≡ rows)
loaded_is {s} {k} {t} found rows calm loads later kept =
    let until : status.Evolves Anything loads.moment t = subst (λ (y : KeeperState). status.Evolves Anything y t) (loads.does).0 later in
    let same : loads.moment ≡ s = calm_loaded calm loads.edits until in
    let one : Ok found.items ≡ Ok rows = sym (loads.does).1 ∙ (ap (λ (y : KeeperState). y.kept) same ∙ kept) in
    ((loads.does).0 ∙ same, cc)

-- a load doesn't fail, but by want of memory
load_end : (s t : KeeperState) (rows : List Row) (error : KeeperError) → (IsDisturbed s t → ⊥) → s.kept ≡ Ok rows → LoadFails s t error → IsCausedEnd ⊥ ⊥ ⊥ (end_of_load error) → end_of_load error ≡ NoMemory
load_end s t rows keeper.NoMemory calm kept fails cause = refl
load_end s t rows keeper.Fault calm kept fails cause = absurd cause
load_end s t rows keeper.Moved calm kept fails cause = absurd fails.does
load_end s t rows (keeper.Damaged n) calm kept fails cause =
    let until : status.Evolves Anything fails.moment t = subst (λ (y : KeeperState). status.Evolves Anything y t) (fails.does).0 (Runs-refl t) in
    let clash : Ok rows ≡ Err (keeper.Damaged n) = sym kept ∙ (ap (λ (y : KeeperState). y.kept) (sym (calm_loaded calm fails.edits until)) ∙ (fails.does).1) in
    cc
load_end s t rows keeper.TooLong calm kept fails cause =
    let until : status.Evolves Anything fails.moment t = subst (λ (y : KeeperState). status.Evolves Anything y t) (fails.does).0 (Runs-refl t) in
    let clash : Ok rows ≡ Err keeper.TooLong = sym kept ∙ (ap (λ (y : KeeperState). y.kept) (sym (calm_loaded calm fails.edits until)) ∙ (fails.does).1) in
    cc

-- ---- the errors of a side

at_side : (side : Side) → AtSide side ⊥ ⊥ → ⊥
at_side A h = h
at_side B h = h

-- a reading call of a side that has no reason to fail
reading_end : (side : Side) (error : StoreError) → IsCausedEnd ⊥ ⊥ ⊥ (end_of_reading side error) → ((error ≡ store.NoMemory → ⊥) → (error ≡ store.Fault → ⊥) → ⊥) → end_of_reading side error ≡ NoMemory
reading_end side store.NoMemory cause none = refl
reading_end side store.Fault cause none = absurd (at_side side cause)
reading_end side store.Moved cause none = absurd (none (λ e. cc) (λ e. cc))
reading_end side store.TooLong cause none = absurd (none (λ e. cc) (λ e. cc))
reading_end side store.TooMany cause none = absurd (none (λ e. cc) (λ e. cc))
reading_end side store.NotThere cause none = absurd (none (λ e. cc) (λ e. cc))
reading_end side (store.Vanished href) cause none = absurd (none (λ e. cc) (λ e. cc))
reading_end side (store.BadItem href error) cause none = absurd (none (λ e. cc) (λ e. cc))

-- ---- listings

no_listing : (s m : SideState) (e : StoreError) → IsReadySide s → Holds_same s m → IsListing (Err e) m → (e ≡ store.NoMemory → ⊥) → (e ≡ store.Fault → ⊥) → ⊥
no_listing s m store.NotThere ready same is memory fault = false≢true (sym is ∙ (same.1 ∙ ready.there))
no_listing s m store.TooMany ready same is memory fault = let few : length (fin.entries m.content) ≤ 100000 = subst (λ (c : Content). length (fin.entries c) ≤ 100000) (sym same.0) ready.few in omega (arith, few, is.1)
no_listing s m store.TooLong ready same is memory fault = false≢true (sym is.2 ∙ (ap (λ (c : Content). list_all is_short (map entry_of (fin.entries c))) same.0 ∙ ready.short))
no_listing s m store.Moved ready same is memory fault = is
no_listing s m (store.Vanished href) ready same is memory fault = is
no_listing s m (store.BadItem href e) ready same is memory fault = is
no_listing s m store.Fault ready same is memory fault = fault refl
no_listing s m store.NoMemory ready same is memory fault = memory refl

list_end : (side : Side) (s t : SideState) (error : StoreError) → IsReadySide s → (WasEdited s t → ⊥) → ListFails error s t → IsCausedEnd ⊥ ⊥ ⊥ (end_of_reading side error) → end_of_reading side error ≡ NoMemory
list_end side s t error ready calm fails cause =
    let at = fails.answered in
    let same = calm_same at.moment calm (Evolves-weaker outside_is_no_write fails.run) (Evolves-refl t) at.from at.until in
    reading_end side error cause (no_listing s at.moment error ready same at.was)

-- what was listed is what is there
lists_is : (s t : SideState) (entries : Vec Entry Global) → (WasEdited s t → ⊥) → Lists entries s t → entries.items ≡ map entry_of (fin.entries s.content)
lists_is s t entries calm lists =
    let later = Since-from_evolves lists.until in
    let same = calm_same lists.listed calm (Evolves-weaker outside_is_no_write lists.from) later (Since-from_evolves lists.from) (Evolves-refl lists.listed) in
    (lists.is_listing).1 ∙ ap (λ (c : Content). map entry_of (fin.entries c)) same.0

-- ---- fetches

is_no_item : (text : List ℕ) (e : ItemError) (item : ItemValue) → read_item text ≡ Err e → item_of text ≡ Some item → ⊥
unfolding item_of
is_no_item text e item refused is = let clash : None ≡ Some item = ap result_ok (sym refused) ∙ is in cc

pub record IsEntry (href : List ℕ) (es : List (List ℕ × Held)) : Type 0 where
  pub entry : List ℕ × Held
  pub within : Within entry es
  pub here : entry.0 ≡ href

asked_entry : (side : Side) (rows : List Row) (es : List (List ℕ × Held)) (href : List ℕ) → Within href (asked side rows (map entry_of es)) → IsEntry href es
asked_entry side rows [] href within = absurd within
asked_entry side rows (e ∷ es) href within = at (λ rest. asked_entry side rows es href rest) (is_unknown side rows (entry_of e)) within
  where
    later : IsEntry href es → IsEntry href (e ∷ es)
    later found = record { entry = found.entry; within = inr found.within; here = found.here }

    at : (Within href (asked side rows (map entry_of es)) → IsEntry href es) → (b : Bool) → Within href (map (λ (y : Entry). y.href) (cond b (entry_of e ∷ filter (is_unknown side rows) (map entry_of es)) (filter (is_unknown side rows) (map entry_of es)))) → IsEntry href (e ∷ es)
    at next true (inl here) = record { entry = e; within = inl refl; here = sym here }
    at next true (inr rest) = later (next rest)
    at next false rest = later (next rest)

-- at the href of an entry something stands
entry_found : (es : List (List ℕ × Held)) (e : List ℕ × Held) → Within e es → (held : Held) × (find (slice_cmp nat_cmp) e.0 es ≡ Some held)
entry_found [] e within = absurd within
entry_found (d ∷ es) e within = at (λ rest. entry_found es e rest) (eq_by_cmp (slice_cmp nat_cmp) e.0 d.0) refl within
  where
    at : (Within e es → (held : Held) × (find (slice_cmp nat_cmp) e.0 es ≡ Some held)) → (b : Bool) → eq_by_cmp (slice_cmp nat_cmp) e.0 d.0 ≡ b → Within e (d ∷ es) → (held : Held) × (cond b (Some d.1) (find (slice_cmp nat_cmp) e.0 es) ≡ Some held)
    at next true is h = (d.1, refl)
    at next false is (inl same) = absurd (false≢true (sym is ∙ (is_eq-slice_cmp e.0 d.0 ∙ (bytes_eq-Decides e.0 d.0).1 (ap (λ (y : List ℕ × Held). y.0) same))))
    at next false is (inr rest) = next rest

asked_stands : (side : Side) (rows : List Row) (c : Content) (href : List ℕ) → Within href (asked side rows (map entry_of (fin.entries c))) → (held : Held) × (fin.get c href ≡ Some held)
asked_stands side rows c href within =
    let found = asked_entry side rows (fin.entries c) href within in
    let held = entry_found (fin.entries c) found.entry found.within in
    (held.0, subst (λ (q : List ℕ). fin.get c q ≡ Some held.0) found.here (get-entries c (found.entry).0 ∙ held.1))

behind_within : (xs : List (List ℕ)) (y : List ℕ) (ys : List (List ℕ)) → Within y (xs ++ y ∷ ys)
behind_within [] y ys = inl refl
behind_within (x ∷ xs) y ys = inr (behind_within xs y ys)

no_fault : (s l m : SideState) (href : List ℕ) (e : StoreError) → IsReadySide s → Holds_same s l → Holds_same s m → (held : Held) × (fin.get l.content href ≡ Some held) → HasFault href e m → (e ≡ store.NoMemory → ⊥) → (e ≡ store.Fault → ⊥) → ⊥
no_fault s l m href (store.Vanished name) ready same_l same_m stands is memory fault = let clash : None ≡ Some stands.0 = sym is.1 ∙ (ap (λ (c : Content). fin.get c href) (same_m.0 ∙ sym same_l.0) ∙ stands.1) in cc
no_fault s l m href (store.BadItem name e) ready same_l same_m stands is memory fault =
    let item = ready.items href is.1.0 (ap (λ (c : Content). fin.get c href) (sym same_m.0) ∙ is.1.1) in
    is_no_item (is.1.0).text e item.0 is.1.2 item.1
no_fault s l m href store.Fault ready same_l same_m stands is memory fault = fault refl
no_fault s l m href store.NoMemory ready same_l same_m stands is memory fault = memory refl
no_fault s l m href store.TooLong ready same_l same_m stands is memory fault = is
no_fault s l m href store.Moved ready same_l same_m stands is memory fault = is
no_fault s l m href store.TooMany ready same_l same_m stands is memory fault = is
no_fault s l m href store.NotThere ready same_l same_m stands is memory fault = is

-- but for want of memory a fetch says where it stopped
answers_stop : (listed t : SideState) (hrefs : List (List ℕ)) (error : StoreError) → FetchAnswers listed t hrefs error → (error ≡ store.NoMemory → ⊥) → StopsFetching listed t hrefs error
answers_stop listed t hrefs store.NoMemory answers memory = absurd (memory refl)
answers_stop listed t hrefs store.Fault answers memory = answers
answers_stop listed t hrefs store.Moved answers memory = answers
answers_stop listed t hrefs store.TooLong answers memory = answers
answers_stop listed t hrefs store.TooMany answers memory = answers
answers_stop listed t hrefs store.NotThere answers memory = answers
answers_stop listed t hrefs (store.Vanished href) answers memory = answers
answers_stop listed t hrefs (store.BadItem href error) answers memory = answers

no_fetch : (side : Side) (rows : List Row) (s t : SideState) (entries : Vec Entry Global) (error : StoreError) → IsReadySide s → (WasEdited s t → ⊥) → FetchFails side rows entries error s t → (error ≡ store.NoMemory → ⊥) → (error ≡ store.Fault → ⊥) → ⊥
no_fetch side rows s t entries error ready calm fails memory fault =
    let stops = answers_stop fails.listed t (asked side rows entries.items) error fails.answers memory in
    let reads : Evolves IsNoWrite s t = Evolves-trans (Evolves-weaker outside_is_no_write fails.from) fails.until in
    let from : Since s fails.listed = Since-from_evolves fails.from in
    let at = stops.fault in
    let same_l = calm_same fails.listed calm reads (Evolves-refl t) from (Since-from_evolves fails.until) in
    let same_m = calm_same at.moment calm reads (Evolves-refl t) (Evolves-trans from at.from) at.until in
    let within : Within stops.href (asked side rows entries.items) = subst (λ (l : List (List ℕ)). Within stops.href l) (sym stops.asks) (behind_within (map (λ (f : Fetched). f.href) stops.given) stops.href stops.rest) in
    let stands = asked_stands side rows (fails.listed).content stops.href (subst (λ (es : List Entry). Within stops.href (asked side rows es)) (fails.is_listing).1 within) in
    no_fault s fails.listed at.moment stops.href error ready same_l same_m stands at.was memory fault

-- ---- the whole reading

module _ (force : Bool) (x : Span) (report : Report) (rows : List Row) (ready : IsReady force x rows) (quiet : IsQuiet x report) (calm : IsDisturbed x.k x.k_now → ⊥) where
  not_emptied : (side : Side) (found : Vec Row Global) (a b : Vec Entry Global) → Loads x.k x.k_now found → Lists a x.a x.a_now → Lists b x.b x.b_now → emptied_side force found.items a.items b.items ≡ Some side → ⊥
  not_emptied side found a b loads lists_a lists_b is =
      let same_rows : found.items ≡ rows = (loaded_is found rows calm loads (Runs-refl x.k_now) ready.kept).1 in
      let same_a = lists_is x.a x.a_now a quiet.calm_a lists_a in
      let same_b = lists_is x.b x.b_now b quiet.calm_b lists_b in
      let full : emptied_side force found.items a.items b.items ≡ None = ap (λ (l : List Row). emptied_side force l a.items b.items) same_rows ∙ (ap (λ (es : List Entry). emptied_side force rows es b.items) same_a ∙ (ap (λ (es : List Entry). emptied_side force rows (map entry_of (fin.entries (x.a).content)) es) same_b ∙ ready.full)) in
      let clash : None ≡ Some side = sym full ∙ is in
      cc

  by_stop : (why : Stop) → IsStop force x why → IsCausedEnd ⊥ ⊥ ⊥ (end_of_stop why) → end_of_stop why ≡ NoMemory
  by_stop (stop.Unloaded error) at cause = load_end x.k x.k_now rows error calm ready.kept at.0 cause
  by_stop (stop.Unlisted A error) at cause = list_end A x.a x.a_now error ready.side_a quiet.calm_a at.1 cause
  by_stop (stop.Unlisted B error) at cause = list_end B x.b x.b_now error ready.side_b quiet.calm_b at.2 cause
  by_stop (stop.Emptied side) at cause = absurd (not_emptied side at.rows at.entries_a at.entries_b at.load at.lists_a at.lists_b at.emptied)
  by_stop (stop.Unfetched A error) at cause = reading_end A error cause (no_fetch A at.rows.items x.a x.a_now at.entries_a error ready.side_a quiet.calm_a at.fails)
  by_stop (stop.Unfetched B error) at cause = reading_end B error cause (no_fetch B at.rows.items x.b x.b_now at.entries_b error ready.side_b quiet.calm_b at.fails)
  by_stop stop.NoMemory at cause = refl

  pub unstopped : Stops force x report → IsQuietEnd x report → report.end ≡ NoMemory
  unstopped stops quiet_end = stops.end ∙ by_stop stops.why stops.stops (subst (λ (end : JobEnd). IsCausedEnd ⊥ ⊥ ⊥ end) stops.end quiet_end.cause)
