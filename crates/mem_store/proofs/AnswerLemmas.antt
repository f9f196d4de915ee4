-- Answers of a call, where edits from outside came before it acted or where the plan stopped it.
use Rattle.std.proofs.Common.{◌≡◌, ◌⊎◌, ℕ, Bool, true, false, List, [], ◌∷◌, ◌++◌, map, Option, Some, None, Result, Ok, Err, inl, inr, refl, sym, ◌∙◌, subst}
use Rattle.std.specs.List.{AllByRecursion}
use Rattle.std.specs.Option.{option_map}
use Rattle.std.specs.FinMap as fin
use Rattle.std.specs.declared.vec.Vec.{Vec}
use Rattle.std.specs.declared.alloc.Global.{Global}
use Rattle.item_text.specs.Items.{ItemValue, item_of, read_item}
use Rattle.item_text.specs.declared.item.ItemError.{ItemError}
use Rattle.item_text.specs.declared.item.ItemError.TheVariants as item_error
use Rattle.store_model.specs.Sides.{Content, SideState, KeepsItem, happens, Evolves, Since, IsOutside, Sometime}
use Rattle.store_model.specs.Waits.{Change, new_at, gone_at, Acts, Flushes, Sent, IsWriteOfThese}
use Rattle.store_model.specs.StoreCalls.{IsListing, WasGot, StoodOrListed, HasFault, StopsAt, IsGetOf, GetAnswer, IsPutOf, NewUnsent, PutNewAnswer, PutOverAnswer, DropAnswer, FlushAnswer, Unsent}
use Rattle.store_model.specs.declared.event.Held.{Held}
use Rattle.store_model.specs.declared.event.StoreEvent.{StoreEvent}
use Rattle.store_model.specs.declared.event.StoreEvent.TheVariants.{Edited, Toggled, Wrote, Read}
use Rattle.store_model.specs.declared.store.Fetched.{Fetched}
use Rattle.store_model.specs.declared.store.Put.{Put}
use Rattle.store_model.specs.declared.store.StoreError.{StoreError}
use Rattle.store_model.specs.declared.store.StoreError.TheVariants.{Fault, Moved, TooLong, TooMany, NotThere, Vanished, BadItem, NoMemory}
use Rattle.store_model.proofs.Moments.{Evolves-refl, Evolves-trans, Evolves-weaker, Evolves-one, Since-from_evolves, Sometime-extends, WasRead-extends, outside_keeps_reads}
use Rattle.store_model.proofs.Waits.{flush_of_these}
use Rattle.store_model.proofs.Once.{put_run}
use Rattle.vdir_store.specs.Vdir.{held_of}
use Rattle.vdir_store.specs.VdirCalls.{IsBadItem, FetchAnswer}
use Rattle.vdir_store.proofs.CallLemmas.{IsSeenRead, fetch_fault, fault_made, bad_made, at_read, read_answer, fetched_at}
use Rattle.mem_store.specs.MemCalls.{IsStop, FlushStop}
use Rattle.mem_store.specs.Desks.{pending_change}
use Rattle.mem_store.specs.declared.desk.Pending.{Pending}

-- ---- list

pub listed_still : (s t : SideState) (Was : SideState → Type 0) → Evolves IsOutside s t → Was t → Sometime Was s t
listed_still s t Was run was = record { moment = t; from = Since-from_evolves run; until = Evolves-refl t; was = was }

pub stop_listed : (s t : SideState) (e : StoreError) → IsStop e → Evolves IsOutside s t → Sometime (IsListing (Err e)) s t
stop_listed s t Fault stop run = listed_still s t (IsListing (Err Fault)) run tt
stop_listed s t NoMemory stop run = listed_still s t (IsListing (Err NoMemory)) run tt
stop_listed s t Moved stop run = absurd stop
stop_listed s t TooLong stop run = absurd stop
stop_listed s t TooMany stop run = absurd stop
stop_listed s t NotThere stop run = absurd stop
stop_listed s t (Vanished href) stop run = absurd stop
stop_listed s t (BadItem href error) stop run = absurd stop

-- ---- get, one href

pub read_run : (s t : SideState) (href bytes : List ℕ) → t ≡ happens s (Read href bytes) → Evolves (IsGetOf (href ∷ [])) s t
read_run s t href bytes same = subst (λ (x : SideState). Evolves (IsGetOf (href ∷ [])) s x) (sym same) (Evolves-one s (Read href bytes) (inl refl) tt)

pub same_run : {Kind : StoreEvent → Type 0} (s t : SideState) → t ≡ s → Evolves Kind s t
same_run {Kind} s t same = subst (λ (x : SideState). Evolves Kind s x) (sym same) (Evolves-refl s)

abbrev seen : (s t : SideState) (href bytes : List ℕ) → fin.get s.content href ≡ Some (held_of bytes) → t ≡ happens s (Read href bytes) → IsSeenRead s t href bytes
seen s t href bytes there same = record { moment = s; before = Evolves-refl s; is_true = tt; same = same; there = there }

pub none_there : (s t : SideState) (href : List ℕ) (e : StoreError) → (e ≡ NoMemory) ⊎ (e ≡ Vanished href) → t ≡ s → fin.get s.content href ≡ None → FetchAnswer s t href (Err e)
none_there s t href e made same none = fetch_fault href s t e (record { moment = s; from = Evolves-refl s; until = same_run s t same; was = fault_made s href e (Vanished href) made (refl, none) })

pub no_item : (s t : SideState) (href bytes : List ℕ) (e : StoreError) (error : ItemError) → IsBadItem href error e → (◌≡◌ {A = Result ItemValue ItemError} (Err error) (Err item_error.NoMemory)) ⊎ (Err error ≡ read_item bytes) → fin.get s.content href ≡ Some (held_of bytes) → t ≡ happens s (Read href bytes) → FetchAnswer s t href (Err e)
no_item s t href bytes e error made answer there same =
    let r = seen s t href bytes there same in
    fetch_fault href s t e (at_read (HasFault href e) r (bad_made s href error e (held_of bytes) made there (read_answer bytes error answer)))

pub item_there : (s t : SideState) (href bytes : List ℕ) (f : Fetched) → f.href ≡ href → f.etag ≡ (held_of bytes).etag → f.item.text ≡ bytes → item_of f.item.text ≡ Some f.item → fin.get s.content href ≡ Some (held_of bytes) → t ≡ happens s (Read href bytes) → FetchAnswer s t href (Ok f)
item_there s t href bytes f name tag text item there same =
    let both = fetched_at s t href bytes f (seen s t href bytes there same) name tag text item in
    (name, both.0, both.1)

-- ---- get, behind edits from outside

stood_after : (recalls : Content → Type 0) (Was : SideState → Type 0) (s m t : SideState) → Since s m → StoodOrListed recalls Was m t → StoodOrListed recalls Was s t
stood_after recalls Was s m t run (inl h) = inl (Sometime-extends run h (Evolves-refl t))
stood_after recalls Was s m t run (inr h) = inr h

all_got_after : (recalls : Content → Type 0) (s m t : SideState) (fs : List Fetched) → Since s m → AllByRecursion (WasGot recalls m t) fs → AllByRecursion (WasGot recalls s t) fs
all_got_after recalls s m t [] run all = tt
all_got_after recalls s m t (f ∷ fs) run all =
    (record { is_item = all.0.is_item; stood = stood_after recalls _ s m t run all.0.stood; was_read = WasRead-extends run all.0.was_read (Evolves-refl t) }, all_got_after recalls s m t fs run all.1)

stops_after : (recalls : Content → Type 0) (s m t : SideState) (hrefs : List (List ℕ)) (e : StoreError) → Since s m → StopsAt recalls m t hrefs e → StopsAt recalls s t hrefs e
stops_after recalls s m t hrefs e run h =
    record { given = h.given; href = h.href; rest = h.rest; asked = h.asked; fetched = all_got_after recalls s m t h.given run h.fetched; fault = stood_after recalls (HasFault h.href e) s m t run h.fault }

pub get_after : (recalls : Content → Type 0) (s m t : SideState) (hrefs : List (List ℕ)) (result : Result (Vec Fetched Global) StoreError) → Evolves IsOutside s m → GetAnswer recalls m t hrefs result → GetAnswer recalls s t hrefs result
get_after recalls s m t hrefs (Ok fetched) run h = (h.0, all_got_after recalls s m t fetched.items (Since-from_evolves run) h.1, h.2 ∙ (λ i. outside_keeps_reads run i ++ map (λ (f : Fetched). (f.href, f.item.text)) fetched.items))
get_after recalls s m t hrefs (Err NoMemory) run h = tt
get_after recalls s m t hrefs (Err Fault) run h = stops_after recalls s m t hrefs Fault (Since-from_evolves run) h
get_after recalls s m t hrefs (Err Moved) run h = stops_after recalls s m t hrefs Moved (Since-from_evolves run) h
get_after recalls s m t hrefs (Err TooLong) run h = stops_after recalls s m t hrefs TooLong (Since-from_evolves run) h
get_after recalls s m t hrefs (Err TooMany) run h = stops_after recalls s m t hrefs TooMany (Since-from_evolves run) h
get_after recalls s m t hrefs (Err NotThere) run h = stops_after recalls s m t hrefs NotThere (Since-from_evolves run) h
get_after recalls s m t hrefs (Err (Vanished href)) run h = stops_after recalls s m t hrefs (Vanished href) (Since-from_evolves run) h
get_after recalls s m t hrefs (Err (BadItem href error)) run h = stops_after recalls s m t hrefs (BadItem href error) (Since-from_evolves run) h

fault_at_first : (recalls : Content → Type 0) (s t : SideState) (hrefs : List (List ℕ)) → (hrefs ≡ [] → ⊥) → Evolves IsOutside s t → StopsAt recalls s t hrefs Fault
fault_at_first recalls s t [] some run = absurd (some refl)
fault_at_first recalls s t (href ∷ rest) some run = record { given = []; href = href; rest = rest; asked = refl; fetched = tt; fault = inl (listed_still s t (HasFault href Fault) run tt) }

pub stop_get : (recalls : Content → Type 0) (s t : SideState) (hrefs : List (List ℕ)) (e : StoreError) → (hrefs ≡ [] → ⊥) → IsStop e → Evolves IsOutside s t → GetAnswer recalls s t hrefs (Err e)
stop_get recalls s t hrefs Fault some stop run = fault_at_first recalls s t hrefs some run
stop_get recalls s t hrefs NoMemory some stop run = tt
stop_get recalls s t hrefs Moved some stop run = absurd stop
stop_get recalls s t hrefs TooLong some stop run = absurd stop
stop_get recalls s t hrefs TooMany some stop run = absurd stop
stop_get recalls s t hrefs NotThere some stop run = absurd stop
stop_get recalls s t hrefs (Vanished href) some stop run = absurd stop
stop_get recalls s t hrefs (BadItem href error) some stop run = absurd stop

pub outside_is_get : (hrefs : List (List ℕ)) (e : StoreEvent) → IsOutside e → IsGetOf hrefs e
outside_is_get hrefs (Edited href old new) h = tt
outside_is_get hrefs Toggled h = tt
outside_is_get hrefs (Wrote href old new sent) h = absurd h
outside_is_get hrefs (Read href text) h = absurd h

-- ---- changes, behind edits from outside

abbrev acts_after : (c : Change) (s m t : SideState) → Evolves IsOutside s m → (h : Acts c m t) → (acts : Acts c s t) × (acts.new ≡ h.new)
acts_after c s m t run h = (record { old = h.old; new = h.new; fit = h.fit; writes = record { moment = h.writes.moment; before = Evolves-trans run h.writes.before; is_true = h.writes.is_true; after = h.writes.after } }, refl)

either_after : (c : Change) (s m t : SideState) → Evolves IsOutside s m → Evolves IsOutside m t ⊎ Acts c m t → Evolves IsOutside s t ⊎ Acts c s t
either_after c s m t run (inl h) = inl (Evolves-trans run h)
either_after c s m t run (inr h) = inr (acts_after c s m t run h).0

unsent_after : (c : Change) (s m t : SideState) (w w' : List Change) (e : StoreError) → Evolves IsOutside s m → Unsent c m w t w' e → Unsent c s w t w' e
unsent_after c s m t w w' Moved run h = (Evolves-trans run h.0, Sometime-extends (Since-from_evolves run) h.1 (Evolves-refl t), h.2)
unsent_after c s m t w w' Fault run h = (either_after c s m t run h.0, h.1)
unsent_after c s m t w w' NoMemory run h = (either_after c s m t run h.0, h.1)
unsent_after c s m t w w' TooLong run h = h
unsent_after c s m t w w' TooMany run h = h
unsent_after c s m t w w' NotThere run h = h
unsent_after c s m t w w' (Vanished href) run h = h
unsent_after c s m t w w' (BadItem href error) run h = h

sent_after : (waits : Bool) (c : Change) (etag : Option (List ℕ)) (s m t : SideState) (w w' : List Change) → Evolves IsOutside s m → Sent waits c etag m w t w' → Sent waits c etag s w t w'
sent_after false c etag s m t w w' run h = let acts = acts_after c s m t run h.0 in (acts.0, h.1, h.2)
sent_after true c etag s m t w w' run h = (Evolves-trans run h.0, h.1, h.2)

pub over_after : (waits : Bool) (c : Change) (s m t : SideState) (w v w' : List Change) (result : Result (Option (List ℕ)) StoreError) → v ≡ w → Evolves IsOutside s m → PutOverAnswer waits c m v t w' result → PutOverAnswer waits c s w t w' result
over_after waits c s m t w v w' (Ok etag) same run h = sent_after waits c etag s m t w w' run (subst (λ (x : List Change). Sent waits c etag m x t w') same h)
over_after waits c s m t w v w' (Err e) same run h = unsent_after c s m t w w' e run (subst (λ (x : List Change). Unsent c m x t w' e) same h)

new_unsent_after : (may : List ℕ → Type 0) (item : ItemValue) (s m t : SideState) (w w' : List Change) (e : StoreError) → Evolves IsOutside s m → NewUnsent may item m w t w' e → NewUnsent may item s w t w' e
new_unsent_after may item s m t w w' e run (inl h) = inl (Evolves-trans run h.0, h.1)
new_unsent_after may item s m t w w' e run (inr h) = inr (h.0, h.1, unsent_after (new_at h.0 item.text) s m t w w' e run h.2)

new_after_same : (waits : Bool) (may : List ℕ → Type 0) (item : ItemValue) (s m t : SideState) (w w' : List Change) (result : Result Put StoreError) → Evolves IsOutside s m → PutNewAnswer waits may item m w t w' result → PutNewAnswer waits may item s w t w' result
new_after_same waits may item s m t w w' (Ok put) run h = (h.0, sent_after waits (new_at put.href item.text) put.etag s m t w w' run h.1)
new_after_same waits may item s m t w w' (Err Moved) run h = (h.0, h.1, unsent_after (new_at h.0 item.text) s m t w w' Moved run h.2)
new_after_same waits may item s m t w w' (Err Fault) run h = new_unsent_after may item s m t w w' Fault run h
new_after_same waits may item s m t w w' (Err NoMemory) run h = new_unsent_after may item s m t w w' NoMemory run h
new_after_same waits may item s m t w w' (Err TooLong) run h = h
new_after_same waits may item s m t w w' (Err TooMany) run h = h
new_after_same waits may item s m t w w' (Err NotThere) run h = h
new_after_same waits may item s m t w w' (Err (Vanished href)) run h = h
new_after_same waits may item s m t w w' (Err (BadItem href error)) run h = h

pub new_after : (waits : Bool) (may : List ℕ → Type 0) (item : ItemValue) (s m t : SideState) (w v w' : List Change) (result : Result Put StoreError) → v ≡ w → Evolves IsOutside s m → PutNewAnswer waits may item m v t w' result → PutNewAnswer waits may item s w t w' result
new_after waits may item s m t w v w' result same run h = new_after_same waits may item s m t w w' result run (subst (λ (x : List Change). PutNewAnswer waits may item m x t w' result) same h)

pub stop_over : (waits : Bool) (c : Change) (s t : SideState) (w w' : List Change) (e : StoreError) → IsStop e → w' ≡ w → Evolves IsOutside s t → PutOverAnswer waits c s w t w' (Err e)
stop_over waits c s t w w' Fault stop same run = (inl run, same)
stop_over waits c s t w w' NoMemory stop same run = (inl run, same)
stop_over waits c s t w w' Moved stop same run = absurd stop
stop_over waits c s t w w' TooLong stop same run = absurd stop
stop_over waits c s t w w' TooMany stop same run = absurd stop
stop_over waits c s t w w' NotThere stop same run = absurd stop
stop_over waits c s t w w' (Vanished href) stop same run = absurd stop
stop_over waits c s t w w' (BadItem href error) stop same run = absurd stop

pub stop_new : (waits : Bool) (may : List ℕ → Type 0) (item : ItemValue) (s t : SideState) (w w' : List Change) (e : StoreError) → IsStop e → w' ≡ w → Evolves IsOutside s t → PutNewAnswer waits may item s w t w' (Err e)
stop_new waits may item s t w w' Fault stop same run = inl (run, same)
stop_new waits may item s t w w' NoMemory stop same run = inl (run, same)
stop_new waits may item s t w w' Moved stop same run = absurd stop
stop_new waits may item s t w w' TooLong stop same run = absurd stop
stop_new waits may item s t w w' TooMany stop same run = absurd stop
stop_new waits may item s t w w' NotThere stop same run = absurd stop
stop_new waits may item s t w w' (Vanished href) stop same run = absurd stop
stop_new waits may item s t w w' (BadItem href error) stop same run = absurd stop

-- ---- a new item

pub put_done : (waits : Bool) (may : List ℕ → Type 0) (name : List ℕ) (item : ItemValue) (s t : SideState) (w w' : List Change) (put : Put) (tag : Option (List ℕ)) → put.href ≡ name → put.etag ≡ tag → may name → PutOverAnswer waits (new_at name item.text) s w t w' (Ok tag) → PutNewAnswer waits may item s w t w' (Ok put)
put_done waits may name item s t w w' put tag href etag chosen sent =
    subst (λ (x : Put). PutNewAnswer waits may item s w t w' (Ok x)) (λ i. record { href = sym href i; etag = sym etag i }) (chosen, sent)

pub put_failed : (waits : Bool) (may : List ℕ → Type 0) (name : List ℕ) (item : ItemValue) (s t : SideState) (w w' : List Change) (e : StoreError) → may name → Unsent (new_at name item.text) s w t w' e → PutNewAnswer waits may item s w t w' (Err e)
put_failed waits may name item s t w w' Moved chosen unsent = (name, chosen, unsent)
put_failed waits may name item s t w w' Fault chosen unsent = inr (name, chosen, unsent)
put_failed waits may name item s t w w' NoMemory chosen unsent = inr (name, chosen, unsent)
put_failed waits may name item s t w w' TooLong chosen unsent = absurd unsent
put_failed waits may name item s t w w' TooMany chosen unsent = absurd unsent
put_failed waits may name item s t w w' NotThere chosen unsent = absurd unsent
put_failed waits may name item s t w w' (Vanished href) chosen unsent = absurd unsent
put_failed waits may name item s t w w' (BadItem href error) chosen unsent = absurd unsent

pub keeps_item : (item : ItemValue) → item_of item.text ≡ Some item → KeepsItem (Some (held_of item.text)) (Some item.text)
keeps_item item good = (item, item, good, good, refl, refl)

-- ---- a removal

nothing_left : (new : Option Held) → KeepsItem new None → option_map (λ (h : Held). h.etag) new ≡ None
nothing_left None keeps = refl
nothing_left (Some held) keeps = absurd keeps

gone_sent : (waits : Bool) (href tag : List ℕ) (etag : Option (List ℕ)) (s t : SideState) (w w' : List Change) → Sent waits (gone_at href tag) etag s w t w' → Sent waits (gone_at href tag) None s w t w'
gone_sent false href tag etag s t w w' (acts, told, same) = (acts, sym (nothing_left acts.new acts.writes.is_true.1), same)
gone_sent true href tag etag s t w w' (run, told, more) = (run, refl, more)

pub dropped : (waits : Bool) (href tag : List ℕ) (etag : Option (List ℕ)) (s t : SideState) (w w' : List Change) → PutOverAnswer waits (gone_at href tag) s w t w' (Ok etag) → DropAnswer waits (gone_at href tag) s w t w' (Ok tt)
dropped waits href tag etag s t w w' h = gone_sent waits href tag etag s t w w' h

-- ---- flush, behind edits from outside

flushes_after : (w : List Change) (s m t : SideState) → Evolves IsOutside s m → Flushes w m t → Flushes w s t
flushes_after w s m t run h = record { first = h.first; last = h.last; before = Evolves-trans run h.before; all = h.all; after = h.after }

any_after : (w : List Change) (s m t : SideState) → Evolves IsOutside s m → Evolves IsOutside m t ⊎ Flushes w m t → Evolves IsOutside s t ⊎ Flushes w s t
any_after w s m t run (inl h) = inl (Evolves-trans run h)
any_after w s m t run (inr h) = inr (flushes_after w s m t run h)

flush_after_same : (s m t : SideState) (w w' : List Change) (result : Result (Unit {0}) StoreError) → Evolves IsOutside s m → FlushAnswer m w t w' result → FlushAnswer s w t w' result
flush_after_same s m t w w' (Ok done) run h = (flushes_after w s m t run h.0, h.1)
flush_after_same s m t w w' (Err Moved) run h = (Evolves-trans run h.0, h.1, h.2)
flush_after_same s m t w w' (Err Fault) run h = any_after w s m t run h
flush_after_same s m t w w' (Err NoMemory) run h = (any_after w s m t run h.0, h.1)
flush_after_same s m t w w' (Err TooLong) run h = (any_after w s m t run h.0, h.1)
flush_after_same s m t w w' (Err TooMany) run h = (any_after w s m t run h.0, h.1)
flush_after_same s m t w w' (Err NotThere) run h = (any_after w s m t run h.0, h.1)
flush_after_same s m t w w' (Err (Vanished href)) run h = (any_after w s m t run h.0, h.1)
flush_after_same s m t w w' (Err (BadItem href error)) run h = (any_after w s m t run h.0, h.1)

pub flush_after : (s m t : SideState) (w v w' : List Change) (result : Result (Unit {0}) StoreError) → v ≡ w → Evolves IsOutside s m → FlushAnswer m v t w' result → FlushAnswer s w t w' result
flush_after s m t w v w' result same run h = flush_after_same s m t w w' result run (subst (λ (x : List Change). FlushAnswer m x t w' result) same h)

pub stop_flush : (s t : SideState) (w w' : List Change) (idle : Bool) (e : StoreError) (result : Result (Unit {0}) StoreError) → (idle ≡ true → w ≡ []) → (idle ≡ false → w ≡ [] → ⊥) → w' ≡ w → IsStop e → FlushStop idle e result → Evolves IsOutside s t → FlushAnswer s w t w' result
stop_flush s t w w' idle e (Ok done) none some same stop h run =
    (subst (λ (l : List Change). Flushes l s t) (sym (none h)) (record { first = t; last = t; before = run; all = refl; after = Evolves-refl t }), same ∙ none h)
stop_flush s t w w' idle e (Err NoMemory) none some same stop h run = (inl run, some h.1)
stop_flush s t w w' idle e (Err Fault) none some same stop h run = inl run
stop_flush s t w w' idle e (Err Moved) none some same stop h run = absurd (subst IsStop h stop)
stop_flush s t w w' idle e (Err TooLong) none some same stop h run = absurd (subst IsStop h stop)
stop_flush s t w w' idle e (Err TooMany) none some same stop h run = absurd (subst IsStop h stop)
stop_flush s t w w' idle e (Err NotThere) none some same stop h run = absurd (subst IsStop h stop)
stop_flush s t w w' idle e (Err (Vanished href)) none some same stop h run = absurd (subst IsStop h stop)
stop_flush s t w w' idle e (Err (BadItem href error)) none some same stop h run = absurd (subst IsStop h stop)

-- ---- what a call answers is a run of its kind

pub outside_is_of_these : (cs : List Change) (e : StoreEvent) → IsOutside e → IsWriteOfThese cs e
outside_is_of_these cs (Edited href old new) h = tt
outside_is_of_these cs Toggled h = tt
outside_is_of_these cs (Wrote href old new sent) h = absurd h
outside_is_of_these cs (Read href text) h = absurd h

pub outside_is_put : (item : ItemValue) (e : StoreEvent) → IsOutside e → IsPutOf item e
outside_is_put item (Edited href old new) h = tt
outside_is_put item Toggled h = tt
outside_is_put item (Wrote href old new sent) h = absurd h
outside_is_put item (Read href text) h = absurd h

any_run : (w : List Change) (s t : SideState) → Evolves IsOutside s t ⊎ Flushes w s t → Evolves (IsWriteOfThese w) s t
any_run w s t (inl h) = Evolves-weaker (outside_is_of_these w) h
any_run w s t (inr h) = flush_of_these w w s t (λ c i. i) h

pub flush_run : (s t : SideState) (w w' : List Change) (result : Result (Unit {0}) StoreError) → FlushAnswer s w t w' result → Evolves (IsWriteOfThese w) s t
flush_run s t w w' (Ok done) h = any_run w s t (inr h.0)
flush_run s t w w' (Err Moved) h = any_run w s t (inl h.0)
flush_run s t w w' (Err Fault) h = any_run w s t h
flush_run s t w w' (Err NoMemory) h = any_run w s t h.0
flush_run s t w w' (Err TooLong) h = any_run w s t h.0
flush_run s t w w' (Err TooMany) h = any_run w s t h.0
flush_run s t w w' (Err NotThere) h = any_run w s t h.0
flush_run s t w w' (Err (Vanished href)) h = any_run w s t h.0
flush_run s t w w' (Err (BadItem href error)) h = any_run w s t h.0

pub new_run : (waits : Bool) (may : List ℕ → Type 0) (item : ItemValue) (s t : SideState) (w w' : List Change) (result : Result Put StoreError) → PutNewAnswer waits may item s w t w' result → Evolves (IsPutOf item) s t
new_run false may item s t w w' result h = put_run may s t item w w' result h
new_run true may item s t w w' (Ok put) h = Evolves-weaker (outside_is_put item) h.1.0
new_run true may item s t w w' (Err Moved) h = put_run may s t item w w' (Err Moved) h
new_run true may item s t w w' (Err Fault) h = put_run may s t item w w' (Err Fault) h
new_run true may item s t w w' (Err NoMemory) h = put_run may s t item w w' (Err NoMemory) h
new_run true may item s t w w' (Err TooLong) h = absurd h
new_run true may item s t w w' (Err TooMany) h = absurd h
new_run true may item s t w w' (Err NotThere) h = absurd h
new_run true may item s t w w' (Err (Vanished href)) h = absurd h
new_run true may item s t w w' (Err (BadItem href error)) h = absurd h

pub none_pending : (xs : List Pending) → map pending_change xs ≡ [] → xs ≡ []
none_pending [] h = refl
none_pending (x ∷ xs) h = absurd (cons_is_no_nil (pending_change x) (map pending_change xs) h)
  where
    cons_is_no_nil : (c : Change) (cs : List Change) → c ∷ cs ≡ [] → ⊥
    cons_is_no_nil c cs h = cc
