-- What a reading of one side leaves.
use Rattle.std.proofs.Common.{◌≡◌, inl, inr, ℕ, suc, Bool, List, [], ◌∷◌, ◌++◌, map, length, Option, None, Ok, Err, refl, sym, ap, ◌∙◌, subst}
use Rattle.std.specs.FinMap as fin
use Rattle.std.specs.declared.vec.Vec.{Vec}
use Rattle.std.specs.declared.alloc.Global.{Global}
use Rattle.item_text.specs.Items.{ItemValue}
use Rattle.store_model.specs.declared.store.Entry.{Entry}
use Rattle.store_model.specs.declared.store.Fetched.{Fetched}
use Rattle.store_model.specs.declared.store.StoreError.{StoreError}
use Rattle.store_model.specs.declared.store.StoreError.TheVariants.{Fault, Moved, TooLong, TooMany, NotThere, Vanished, BadItem, NoMemory}
use Rattle.store_model.specs.declared.event.StoreEvent.{StoreEvent}
use Rattle.store_model.specs.declared.event.StoreEvent.TheVariants.{Edited, Toggled, Wrote, Read}
use Rattle.store_model.specs.Sides.{Content, SideState, Evolves, Since, Sometime, IsOutside, IsNoWrite}
use Rattle.store_model.specs.StoreCalls.{IsListed, HasFault, StoodOrListed, StopsAt, IsGetOf, GetAnswer, read_of}
use Rattle.store_model.proofs.Moments.{Evolves-refl, Evolves-trans, Evolves-weaker, Since-from_evolves, Sometime-extends, Sometime-weaker, outside_is_no_write, get_is_no_write, outside_keeps_reads, all_got_fetched}
use Rattle.store_model.proofs.Lacks.{Evolves-first, Evolves-rest}
use Rattle.status_keeper.specs.declared.row.Row.{Row}
use Rattle.status_keeper.specs.Kept.{KeeperState, IsEdit}
use Rattle.status_keeper.specs.Kept as status
use Rattle.sync_plan.specs.declared.report.Side.{Side}
use Rattle.sync_plan.specs.declared.report.Side.TheVariants.{A, B}
use Rattle.sync_plan.specs.declared.seen.Seen.{Seen}
use Rattle.side_reads.specs.Holdings.{asked, AreTaken}
use Rattle.job_reads.specs.declared.stop.Stop.{Stop}
use Rattle.job_reads.specs.declared.stop.Stop.TheVariants as stop
use Rattle.job_reads.specs.Readings.{Lists, ListFails, GetsAsked, Reads, StopsFetching, FetchAnswers, FetchFails, IsFetchStop, Loads, emptied_side, Span, IsReadWithin, OnlyReads, IsUnfetched, IsStop}

-- one item is taken for each entry
pub taken_count : (side : Side) (rows : List Row) (fetched : List Fetched) (es : List Entry) (ss : List Seen) (ts : List (Option ItemValue)) → AreTaken side rows fetched es ss ts → length ss ≡ length es
taken_count side rows fetched [] [] [] taken = refl
taken_count side rows fetched (e ∷ es) (s ∷ ss) (t ∷ ts) taken = ap suc (taken_count side rows fetched es ss ts taken.1)
taken_count side rows fetched [] (s ∷ ss) ts taken = absurd taken
taken_count side rows fetched [] [] (t ∷ ts) taken = absurd taken
taken_count side rows fetched (e ∷ es) [] ts taken = absurd taken
taken_count side rows fetched (e ∷ es) (s ∷ ss) [] taken = absurd taken

-- ---- listings

pub list_fails : (recalls : Content → Type 0) (error : StoreError) (s t : SideState) → Evolves IsOutside s t → Sometime (IsListed recalls (Err error)) s t → ListFails error s t
list_fails recalls error s t run listed = record { run = run; answered = Sometime-weaker (λ m h. h) listed }

pub lists : (recalls : Content → Type 0) (entries : Vec Entry Global) (s t : SideState) → Evolves IsOutside s t → Sometime (IsListed recalls (Ok entries)) s t → Lists entries s t
lists recalls entries s t run listed =
    record {
      listed = listed.moment;
      from = Evolves-first run listed.from listed.until;
      is_listing = listed.was.0;
      until = Evolves-rest run listed.from listed.until;
    }

-- ---- what a fetch reads

pub get_same : (hrefs asks : List (List ℕ)) → hrefs ≡ asks → (e : StoreEvent) → IsGetOf hrefs e → IsGetOf asks e
get_same hrefs asks same e h = subst (λ (l : List (List ℕ)). IsGetOf l e) same h

outside_is_get : (hrefs : List (List ℕ)) (e : StoreEvent) → IsOutside e → IsGetOf hrefs e
outside_is_get hrefs (Edited href old new) h = tt
outside_is_get hrefs Toggled h = tt
outside_is_get hrefs (Wrote href old new sent) h = h
outside_is_get hrefs (Read href text) h = absurd h

-- the same of the rows that were loaded
pub gets_of : (side : Side) (rows loaded : List Row) (es : List Entry) (s t : SideState) → rows ≡ loaded → Evolves (IsGetOf (asked side rows es)) s t → Evolves (IsGetOf (asked side loaded es)) s t
gets_of side rows loaded es s t same gets = Evolves-weaker (get_same (asked side rows es) (asked side loaded es) (ap (λ (l : List Row). asked side l es) same)) gets

gets_quiet : (hrefs : List (List ℕ)) (s t : SideState) → Evolves (IsGetOf hrefs) s t → Evolves IsNoWrite s t
gets_quiet hrefs s t gets = Evolves-weaker (get_is_no_write hrefs) gets

-- since the listing
gets_all : (hrefs : List (List ℕ)) (listed m t : SideState) → Evolves IsOutside listed m → Evolves (IsGetOf hrefs) m t → Evolves (IsGetOf hrefs) listed t
gets_all hrefs listed m t before gets = Evolves-trans (Evolves-weaker (outside_is_get hrefs) before) gets

pub gets_asked : (side : Side) (rows : List Row) (recalls : Content → Type 0) (entries : Vec Entry Global) (s m t : SideState) → Evolves IsOutside s m → Sometime (IsListed recalls (Ok entries)) s m → Evolves (IsGetOf (asked side rows entries.items)) m t → GetsAsked side rows entries s t
gets_asked side rows recalls entries s m t run listed gets =
    record {
      listed = listed.moment;
      from = Evolves-first run listed.from listed.until;
      is_listing = listed.was.0;
      gets = gets_all (asked side rows entries.items) listed.moment m t (Evolves-rest run listed.from listed.until) gets;
    }

pub reads_asked : (side : Side) (rows : List Row) (entries : Vec Entry Global) (fetched : Vec Fetched Global) (s t : SideState) → Reads side rows entries fetched s t → GetsAsked side rows entries s t
reads_asked side rows entries fetched s t reads = record { listed = reads.listed; from = reads.from; is_listing = reads.is_listing; gets = reads.gets }

pub fails_asked : (side : Side) (rows : List Row) (entries : Vec Entry Global) (error : StoreError) (s t : SideState) → FetchFails side rows entries error s t → GetsAsked side rows entries s t
fails_asked side rows entries error s t fails = record { listed = fails.listed; from = fails.from; is_listing = fails.is_listing; gets = fails.gets }

pub lists_outside : (entries : Vec Entry Global) (s t : SideState) → Lists entries s t → Evolves IsOutside s t
lists_outside entries s t lists = Evolves-trans lists.from lists.until

-- ---- a run that only read

within_quiet : (side : Side) (k now : KeeperState) (s t : SideState) → IsReadWithin side k now s t → Evolves IsNoWrite s t
within_quiet side k now s t (inl outside) = Evolves-weaker outside_is_no_write outside
within_quiet side k now s t (inr (rows, entries, load, at)) = Evolves-trans (Evolves-weaker outside_is_no_write at.from) (gets_quiet (asked side rows.items entries.items) at.listed t at.gets)

pub only_reads : (x : Span) → status.Evolves IsEdit x.k x.k_now → IsReadWithin A x.k x.k_now x.a x.a_now → IsReadWithin B x.k x.k_now x.b x.b_now → OnlyReads x
only_reads x kept within_a within_b =
    record {
      keeper = kept;
      a = within_quiet A x.k x.k_now x.a x.a_now within_a;
      b = within_quiet B x.k x.k_now x.b x.b_now within_b;
      within_a = within_a;
      within_b = within_b;
    }

-- ---- fetches

pub reads : (side : Side) (rows : List Row) (recalls : Content → Type 0) (entries : Vec Entry Global) (fetched : Vec Fetched Global) (s m t : SideState) → Evolves IsOutside s m → Sometime (IsListed recalls (Ok entries)) s m → Evolves (IsGetOf (asked side rows entries.items)) m t → GetAnswer recalls m t (asked side rows entries.items) (Ok fetched) → Reads side rows entries fetched s t
reads side rows recalls entries fetched s m t run listed gets answer =
    record {
      listed = listed.moment;
      from = Evolves-first run listed.from listed.until;
      is_listing = listed.was.0;
      until = gets_quiet (asked side rows entries.items) listed.moment t (gets_all (asked side rows entries.items) listed.moment m t (Evolves-rest run listed.from listed.until) gets);
      gets = gets_all (asked side rows entries.items) listed.moment m t (Evolves-rest run listed.from listed.until) gets;
      asks = answer.0;
      each = all_got_fetched recalls listed.moment m t fetched.items listed.until (Since-from_evolves gets) listed.was.1 answer.1;
      reads = answer.2 ∙ ap (λ (l : List (List ℕ × List ℕ)). l ++ map read_of fetched.items) (outside_keeps_reads run);
    }

fault_of_content : (href : List ℕ) (error : StoreError) (x y : SideState) → x.content ≡ y.content → HasFault href error x → HasFault href error y
fault_of_content href (Vanished name) x y same h = (h.0, ap (λ (c : Content). fin.get c href) (sym same) ∙ h.1)
fault_of_content href (BadItem name error) x y same h = (h.0, (h.1.0, ap (λ (c : Content). fin.get c href) (sym same) ∙ h.1.1, h.1.2))
fault_of_content href Fault x y same h = h
fault_of_content href NoMemory x y same h = h
fault_of_content href TooLong x y same h = h
fault_of_content href Moved x y same h = h
fault_of_content href TooMany x y same h = h
fault_of_content href NotThere x y same h = h

stops_fetching : (recalls : Content → Type 0) (listed m t : SideState) (hrefs : List (List ℕ)) (error : StoreError) → Since listed m → Since m t → ((c : Content) → recalls c → c ≡ listed.content) → StopsAt recalls m t hrefs error → StopsFetching listed t hrefs error
stops_fetching recalls listed m t hrefs error before after same stops =
    record {
      given = stops.given;
      href = stops.href;
      rest = stops.rest;
      asks = stops.asked;
      each = all_got_fetched recalls listed m t stops.given before after same stops.fetched;
      fault = fault stops.fault;
    }
  where
    fault : StoodOrListed recalls (HasFault stops.href error) m t → Sometime (HasFault stops.href error) listed t
    fault (inl sometime) = Sometime-extends before sometime (Evolves-refl t)
    fault (inr (x, recalled, was)) = record { moment = listed; from = Evolves-refl listed; until = Evolves-trans before after; was = fault_of_content stops.href error x listed (same x.content recalled) was }

fetch_answers : (recalls : Content → Type 0) (listed m t : SideState) (hrefs : List (List ℕ)) (error : StoreError) → Since listed m → Since m t → ((c : Content) → recalls c → c ≡ listed.content) → GetAnswer recalls m t hrefs (Err error) → FetchAnswers listed t hrefs error
fetch_answers recalls listed m t hrefs NoMemory before after same answer = tt
fetch_answers recalls listed m t hrefs Fault before after same answer = stops_fetching recalls listed m t hrefs Fault before after same answer
fetch_answers recalls listed m t hrefs Moved before after same answer = stops_fetching recalls listed m t hrefs Moved before after same answer
fetch_answers recalls listed m t hrefs TooLong before after same answer = stops_fetching recalls listed m t hrefs TooLong before after same answer
fetch_answers recalls listed m t hrefs TooMany before after same answer = stops_fetching recalls listed m t hrefs TooMany before after same answer
fetch_answers recalls listed m t hrefs NotThere before after same answer = stops_fetching recalls listed m t hrefs NotThere before after same answer
fetch_answers recalls listed m t hrefs (Vanished name) before after same answer = stops_fetching recalls listed m t hrefs (Vanished name) before after same answer
fetch_answers recalls listed m t hrefs (BadItem name error) before after same answer = stops_fetching recalls listed m t hrefs (BadItem name error) before after same answer

pub fetch_fails : (side : Side) (rows : List Row) (recalls : Content → Type 0) (entries : Vec Entry Global) (error : StoreError) (s m t : SideState) → Evolves IsOutside s m → Sometime (IsListed recalls (Ok entries)) s m → Evolves (IsGetOf (asked side rows entries.items)) m t → GetAnswer recalls m t (asked side rows entries.items) (Err error) → FetchFails side rows entries error s t
fetch_fails side rows recalls entries error s m t run listed gets answer =
    record {
      listed = listed.moment;
      from = Evolves-first run listed.from listed.until;
      is_listing = listed.was.0;
      until = gets_quiet (asked side rows entries.items) listed.moment t (gets_all (asked side rows entries.items) listed.moment m t (Evolves-rest run listed.from listed.until) gets);
      gets = gets_all (asked side rows entries.items) listed.moment m t (Evolves-rest run listed.from listed.until) gets;
      answers = fetch_answers recalls listed.moment m t (asked side rows entries.items) error listed.until (Since-from_evolves gets) listed.was.1 answer;
    }

-- ---- a fetch that ends a run

module _ (force : Bool) (x : Span) (rows : Vec Row Global) (load : Loads x.k x.k_now rows) (ea eb : Vec Entry Global) (full : emptied_side force rows.items ea.items eb.items ≡ None) (kept : status.Evolves IsEdit x.k x.k_now) where
  unfetched_of_a : (at : Side) (error : StoreError) → at ≡ A → FetchFails A rows.items ea error x.a x.a_now → Lists eb x.b x.b_now → IsUnfetched force at x error
  unfetched_of_a at error is fails lists_b =
      subst (λ (s : Side). IsUnfetched force s x error) (sym is) (record { rows = rows; load = load; entries_a = ea; entries_b = eb; full = full; fails = fails; lists_b = lists_b })

  unfetched_of_b : (at : Side) (error : StoreError) → at ≡ B → (fetched_a : Vec Fetched Global) → Reads A rows.items ea fetched_a x.a x.a_now → FetchFails B rows.items eb error x.b x.b_now → IsUnfetched force at x error
  unfetched_of_b at error is fetched_a reads_a fails =
      subst (λ (s : Side). IsUnfetched force s x error) (sym is) (record { rows = rows; load = load; entries_a = ea; entries_b = eb; full = full; fetched_a = fetched_a; reads_a = reads_a; fails = fails })

  pub stopped_at_a : (recalls : Content → Type 0) (m : SideState) (end : Stop) → Evolves IsOutside x.a m → Sometime (IsListed recalls (Ok ea)) x.a m → Evolves (IsGetOf (asked A rows.items ea.items)) m x.a_now → Lists eb x.b x.b_now → IsFetchStop A (λ error. GetAnswer recalls m x.a_now (asked A rows.items ea.items) (Err error)) end → IsStop force x end
  stopped_at_a recalls m (stop.Unfetched at error) run listed gets lists_b h = unfetched_of_a at error h.0 (fetch_fails A rows.items recalls ea error x.a m x.a_now run listed gets h.1) lists_b
  stopped_at_a recalls m stop.NoMemory run listed gets lists_b h = only_reads x kept (inr (rows, ea, load, gets_asked A rows.items recalls ea x.a m x.a_now run listed gets)) (inl (lists_outside eb x.b x.b_now lists_b))
  stopped_at_a recalls m (stop.Unloaded error) run listed gets lists_b h = absurd h
  stopped_at_a recalls m (stop.Unlisted at error) run listed gets lists_b h = absurd h
  stopped_at_a recalls m (stop.Emptied at) run listed gets lists_b h = absurd h

  pub stopped_at_b : (recalls : Content → Type 0) (m : SideState) (end : Stop) (fetched_a : Vec Fetched Global) → Reads A rows.items ea fetched_a x.a x.a_now → Evolves IsOutside x.b m → Sometime (IsListed recalls (Ok eb)) x.b m → Evolves (IsGetOf (asked B rows.items eb.items)) m x.b_now → IsFetchStop B (λ error. GetAnswer recalls m x.b_now (asked B rows.items eb.items) (Err error)) end → IsStop force x end
  stopped_at_b recalls m (stop.Unfetched at error) fetched_a reads_a run listed gets h = unfetched_of_b at error h.0 fetched_a reads_a (fetch_fails B rows.items recalls eb error x.b m x.b_now run listed gets h.1)
  stopped_at_b recalls m stop.NoMemory fetched_a reads_a run listed gets h = only_reads x kept (inr (rows, ea, load, reads_asked A rows.items ea fetched_a x.a x.a_now reads_a)) (inr (rows, eb, load, gets_asked B rows.items recalls eb x.b m x.b_now run listed gets))
  stopped_at_b recalls m (stop.Unloaded error) fetched_a reads_a run listed gets h = absurd h
  stopped_at_b recalls m (stop.Unlisted at error) fetched_a reads_a run listed gets h = absurd h
  stopped_at_b recalls m (stop.Emptied at) fetched_a reads_a run listed gets h = absurd h
