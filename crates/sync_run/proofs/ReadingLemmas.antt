-- What a run has read of its sides.
use Rattle.std.proofs.Common.{◌≡◌, inl, inr, ℕ, Bool, List, [], ◌∷◌, ◌++◌, map, Ok, append_assoc, append-nil, refl, sym, ap, ◌∙◌, subst}
use Rattle.std.specs.List.{AllByRecursion}
use Rattle.std.specs.declared.vec.Vec.{Vec}
use Rattle.std.specs.declared.alloc.Global.{Global}
use Rattle.outside.specs.Runs.{Leads}
use Rattle.outside.proofs.Runs.{Runs-refl, Runs-trans, Runs-weaker, Runs-one}
use Rattle.store_model.specs.declared.event.StoreEvent.{StoreEvent}
use Rattle.store_model.specs.declared.event.StoreEvent.TheVariants.{Edited, Toggled, Wrote, Read}
use Rattle.store_model.specs.declared.store.Entry.{Entry}
use Rattle.store_model.specs.declared.store.Fetched.{Fetched}
use Rattle.store_model.specs.Sides.{SideState, happens, IsTrueEvent, Since}
use Rattle.store_model.specs.StoreCalls.{IsGetOf, read_of}
use Rattle.store_model.specs.Waits.{In}
use Rattle.store_model.proofs.Moments.{Evolves-refl, Evolves-trans, Since-from_evolves, outside_keeps_reads}
use Rattle.status_keeper.specs.declared.row.Row.{Row}
use Rattle.status_keeper.specs.Kept.{KeeperState, Committed}
use Rattle.status_keeper.specs.Kept as status
use Rattle.status_keeper.specs.KeeperCalls.{Commits, found_at}
use Rattle.status_keeper.proofs.Moving.{placing_run}
use Rattle.sync_plan.specs.declared.report.Side.{Side}
use Rattle.sync_plan.specs.declared.report.Side.TheVariants.{A, B}
use Rattle.sync_plan.specs.declared.rules.Rules.{Rules}
use Rattle.sync_plan.specs.declared.report.Refusal.{Refusal}
use Rattle.sync_plan.specs.declared.report.Refusal.TheVariants.{SameLocation, Status, Storage, StorageEmpty, SameIdent}
use Rattle.sync_plan.specs.declared.report.JobEnd.{JobEnd}
use Rattle.sync_plan.specs.declared.report.JobEnd.TheVariants.{Synced, Refused, NotFlushed, NotCommitted, NoMemory}
use Rattle.sync_plan.specs.declared.report.Report.{Report}
use Rattle.side_reads.specs.Holdings.{asked}
use Rattle.job_reads.specs.declared.reading.ReadJob.{ReadJob}
use Rattle.job_reads.specs.Readings.{Span, span, Loads, IsRead, IsReadWithin, GetsAsked, Reads, OnlyReads}
use Rattle.sync_run.specs.Ends.{IsKeeping, going, IsStill, IsTwinned, GoesOn, RunsOn, IsJob, KeepsRows, JobRun}
use Rattle.sync_run.specs.Reading.{ReadSome, ReadEach, WasLoaded, ReadsAsked, ReadsAll}
use Rattle.sync_run.proofs.EndLemmas.{making_is_keeping}
use Rattle.sync_run.proofs.RunLemmas.{stop_reads, broken, finished}

-- ---- what was read, by its events

grown : (hrefs : List (List ℕ)) (s t : SideState) (es : List StoreEvent) → Leads happens IsTrueEvent (IsGetOf hrefs) s es t → (new : List (List ℕ × List ℕ)) × (t.reads ≡ s.reads ++ new) × AllByRecursion (λ (r : List ℕ × List ℕ). In r.0 hrefs) new
grown hrefs s t [] leads = ([], ap (λ (x : SideState). x.reads) leads ∙ sym (append-nil s.reads), tt)
grown hrefs s t (Edited href old new ∷ es) leads = grown hrefs (happens s (Edited href old new)) t es leads.2
grown hrefs s t (Toggled ∷ es) leads = grown hrefs (happens s Toggled) t es leads.2
grown hrefs s t (Wrote href old new sent ∷ es) leads = absurd leads.0
grown hrefs s t (Read href text ∷ es) leads =
    let rest = grown hrefs (happens s (Read href text)) t es leads.2 in
    ((href, text) ∷ rest.0, rest.1 ∙ append_assoc s.reads ((href, text) ∷ []) rest.0, (leads.0, rest.2))

some_of : (side : Side) (rows : List Row) (entries : Vec Entry Global) (s t : SideState) → GetsAsked side rows entries s t → ReadSome side rows s t
some_of side rows entries s t at =
    let more = grown (asked side rows entries.items) at.listed t (at.gets).events (at.gets).leads in
    record {
      new = more.0;
      reads = more.1 ∙ ap (λ (l : List (List ℕ × List ℕ)). l ++ more.0) (outside_keeps_reads at.from);
      hrefs = asked side rows entries.items;
      are = record { listed = at.listed; entries = entries; from = at.from; is_listing = at.is_listing; until = Since-from_evolves at.gets; all = refl };
      each = more.2;
    }

-- the rows of a load are those that the status means then
meant : (k now : KeeperState) (rows : Vec Row Global) → Loads k now rows → now.kept ≡ Ok rows.items
meant k now rows load = ap (λ (m : KeeperState). m.kept) (load.does).0 ∙ (load.does).1

same_rows : (k now : KeeperState) (one other : Vec Row Global) → Loads k now one → Loads k now other → one.items ≡ other.items
same_rows k now one other first second = let same = sym (meant k now one first) ∙ meant k now other second in cc

loaded_last : (k now : KeeperState) (rows : Vec Row Global) → Loads k now rows → WasLoaded k now rows
loaded_last k now rows load = record { now = now; load = load; until = Runs-refl now }

within_asked : (x : Span) → IsReadWithin A x.k x.k_now x.a x.a_now → IsReadWithin B x.k x.k_now x.b x.b_now → ReadsAsked x
within_asked x (inl none_a) (inl none_b) = inl (outside_keeps_reads none_a, outside_keeps_reads none_b)
within_asked x (inr (rows, entries, load, at)) (inl none_b) =
    inr (record { rows = rows; loaded = loaded_last x.k x.k_now rows load; a = inr (some_of A rows.items entries x.a x.a_now at); b = inl (outside_keeps_reads none_b) })
within_asked x (inl none_a) (inr (rows, entries, load, at)) =
    inr (record { rows = rows; loaded = loaded_last x.k x.k_now rows load; a = inl (outside_keeps_reads none_a); b = inr (some_of B rows.items entries x.b x.b_now at) })
within_asked x (inr (rows, entries, load, at)) (inr (others, entries_b, load_b, at_b)) =
    inr (record {
      rows = rows;
      loaded = loaded_last x.k x.k_now rows load;
      a = inr (some_of A rows.items entries x.a x.a_now at);
      b = inr (subst (λ (l : List Row). ReadSome B l x.b x.b_now) (same_rows x.k x.k_now others rows load_b load) (some_of B others.items entries_b x.b x.b_now at_b));
    })

-- ---- each of what was asked for

hrefs_of : (fs : List Fetched) → map (λ (r : List ℕ × List ℕ). r.0) (map read_of fs) ≡ map (λ (f : Fetched). f.href) fs
hrefs_of [] = refl
hrefs_of (f ∷ fs) = ap (λ (l : List (List ℕ)). f.href ∷ l) (hrefs_of fs)

-- nothing is read behind the reading
each_of : (side : Side) (rows : List Row) (entries : Vec Entry Global) (fetched : Vec Fetched Global) (s m t : SideState) → Reads side rows entries fetched s m → Since m t → t.reads ≡ m.reads → ReadEach side rows s t
each_of side rows entries fetched s m t reads later unread =
    record {
      new = map read_of fetched.items;
      reads = unread ∙ reads.reads;
      are = record {
        listed = reads.listed;
        entries = entries;
        from = reads.from;
        is_listing = reads.is_listing;
        until = Evolves-trans (Since-from_evolves reads.gets) later;
        all = hrefs_of fetched.items ∙ reads.asks;
      };
    }

in_more : (href : List ℕ) (hrefs : List (List ℕ)) (rs : List (List ℕ × List ℕ)) → AllByRecursion (λ (r : List ℕ × List ℕ). In r.0 hrefs) rs → AllByRecursion (λ (r : List ℕ × List ℕ). In r.0 (href ∷ hrefs)) rs
in_more href hrefs [] all = tt
in_more href hrefs (r ∷ rs) all = (inr all.0, in_more href hrefs rs all.1)

in_all : (rs : List (List ℕ × List ℕ)) → AllByRecursion (λ (r : List ℕ × List ℕ). In r.0 (map (λ (q : List ℕ × List ℕ). q.0) rs)) rs
in_all [] = tt
in_all (r ∷ rs) = (inl refl, in_more r.0 (map (λ (q : List ℕ × List ℕ). q.0) rs) rs (in_all rs))

each_some : (side : Side) (rows : List Row) (s t : SideState) → ReadEach side rows s t → ReadSome side rows s t
each_some side rows s t each = record { new = each.new; reads = each.reads; hrefs = map (λ (r : List ℕ × List ℕ). r.0) each.new; are = each.are; each = in_all each.new }

-- ---- the status since its load

committed : (m : KeeperState) (rows : List Row) → status.Evolves IsKeeping m (status.happens m (Committed rows))
committed m rows = Runs-one m (Committed rows) tt tt

kept_since : (k exit : KeeperState) (before after : List Row) → KeepsRows k exit before after → status.Evolves IsKeeping k exit
kept_since k exit before after (inl kept) = Runs-weaker making_is_keeping kept.1
kept_since k exit before after (inr placed) =
    subst (λ (m : KeeperState). status.Evolves IsKeeping k m) (sym (placed.does).1)
    (Runs-trans (Runs-weaker making_is_keeping (placing_run (found_at k.stamp) k (Commits (found_at k.stamp) after exit) placed)) (committed placed.moment after))

-- ---- a run

all_of_job : (force : Bool) (rules : Rules) (x : Span) → JobRun force rules x → ReadsAll x
all_of_job force rules x run =
    let r = run.r in
    let read = run.read in
    record {
      rows = r.rows;
      loaded = record { now = run.k; load = read.load; until = kept_since run.k x.k_now r.rows.items run.after run.keeps };
      a = each_of A r.rows.items read.entries_a read.fetched_a x.a run.a x.a_now read.reads_a ((run.job).course_a).later run.unread_a;
      b = each_of B r.rows.items read.entries_b read.fetched_b x.b run.b x.b_now read.reads_b ((run.job).course_b).later run.unread_b;
    }

module _ (force : Bool) (rules : Rules) (waits_a waits_b : Bool) (x : Span) (report : Report) (r : ReadJob) (k : KeeperState) (a b : SideState) (read : IsRead force (span x.k k x.a a x.b b) r) (known_a known_b : Bool) where
  all_still : IsStill (going known_a known_b r k x.k_now a x.a_now b x.b_now) → ReadsAll x
  all_still (same_k, same_a, same_b) = record {
    rows = r.rows;
    loaded = record { now = k; load = read.load; until = subst (λ (m : KeeperState). status.Evolves IsKeeping k m) (sym same_k) (Runs-refl k) };
    a = each_of A r.rows.items read.entries_a read.fetched_a x.a a x.a_now read.reads_a (subst (λ (t : SideState). Since a t) (sym same_a) (Evolves-refl a)) (ap (λ (t : SideState). t.reads) same_a);
    b = each_of B r.rows.items read.entries_b read.fetched_b x.b b x.b_now read.reads_b (subst (λ (t : SideState). Since b t) (sym same_b) (Evolves-refl b)) (ap (λ (t : SideState). t.reads) same_b);
  }

  all_twinned : (refusal : Refusal) → IsTwinned (going known_a known_b r k x.k_now a x.a_now b x.b_now) refusal → ReadsAll x
  all_twinned (SameIdent side ident first second) (refused, same) = all_still same
  all_twinned SameLocation at = absurd at
  all_twinned (Status error) at = absurd at
  all_twinned (Storage side error) at = absurd at
  all_twinned (StorageEmpty side) at = absurd at

  goes_all : (end : JobEnd) → GoesOn rules waits_a waits_b (going known_a known_b r k x.k_now a x.a_now b x.b_now) report end → ReadsAll x
  goes_all (Refused refusal) at = all_twinned refusal at.0
  goes_all NoMemory at = elim at.0 [
    | inl same ↦ all_still same
    | inr off ↦ all_of_job force rules x (broken force rules waits_a waits_b x report r k a b read known_a known_b off)
  ]
  goes_all Synced f = all_of_job force rules x (finished force rules waits_a waits_b x report r k a b read known_a known_b Synced f)
  goes_all (NotFlushed side error) f = all_of_job force rules x (finished force rules waits_a waits_b x report r k a b read known_a known_b (NotFlushed side error) f)
  goes_all (NotCommitted error) f = all_of_job force rules x (finished force rules waits_a waits_b x report r k a b read known_a known_b (NotCommitted error) f)

pub all_read : (force : Bool) (rules : Rules) (waits_a waits_b : Bool) (x : Span) (report : Report) → RunsOn force rules waits_a waits_b x report → ReadsAll x
all_read force rules waits_a waits_b x report on = goes_all force rules waits_a waits_b x report on.r on.k on.a on.b on.read on.known_a on.known_b report.end on.goes_on

some_read : (x : Span) → ReadsAll x → ReadsAsked x
some_read x all = inr (record { rows = all.rows; loaded = all.loaded; a = inr (each_some A (all.rows).items x.a x.a_now all.a); b = inr (each_some B (all.rows).items x.b x.b_now all.b) })

only_read : (x : Span) → OnlyReads x → ReadsAsked x
only_read x only = within_asked x only.within_a only.within_b

pub asked_read : (force : Bool) (rules : Rules) (waits_a waits_b : Bool) (x : Span) (report : Report) → IsJob force rules waits_a waits_b x report → ReadsAsked x
asked_read force rules waits_a waits_b x report (inl stops) = only_read x (stop_reads force x stops.why stops.stops)
asked_read force rules waits_a waits_b x report (inr on) = some_read x (all_read force rules waits_a waits_b x report on)
