-- What was read of a side is what a run takes it to hold.
use Rattle.std.proofs.Common.{◌≡◌, ◌⊎◌, inl, inr, ℕ, zero, suc, T, Bool, true, false, cond, ◌&&◌, List, [], ◌∷◌, map, slice_get, Option, Some, None, Less, Equal, Greater, refl, sym, ap, ◌∙◌, subst, option_map}
use Rattle.std.specs.FinMap as fin
use Rattle.std.specs.FinMap.{entries_sorted, get-entries, find, is_sorted}
use Rattle.std.specs.FinMap.Entries.{below_all}
use Rattle.std.specs.Ordering.{nat_cmp, eq_by_cmp, is_lt}
use Rattle.std.specs.Cmp.Lexicographic.{slice_cmp}
use Rattle.std.specs.Str.{bytes_eq}
use Rattle.std.specs.declared.cmp.Ordering.{Ordering}
use Rattle.std.proofs.lemmas.Bool.{false≢true}
use Rattle.std.proofs.lemmas.Map.Text.{is_eq-slice_cmp}
use Rattle.std.proofs.lemmas.Slice.Eq.{bytes_eq-Decides}
use Rattle.std.specs.declared.vec.Vec.{Vec}
use Rattle.std.specs.declared.alloc.Global.{Global}
use Rattle.item_text.specs.Items.{ItemValue}
use Rattle.store_model.specs.declared.event.Held.{Held}
use Rattle.store_model.specs.declared.store.Entry.{Entry}
use Rattle.store_model.specs.declared.store.Fetched.{Fetched}
use Rattle.store_model.specs.Sides.{Since, Sometime}
use Rattle.store_model.specs.StoreCalls.{entry_of, WasFetched}
use Rattle.store_model.proofs.Moments.{Evolves-refl, Since-from_evolves, Sometime-extends, Sometime-weaker, WasRead-extends}
use Rattle.status_keeper.specs.Idents.{Precedes}
use Rattle.status_keeper.specs.declared.row.Row.{Row}
use Rattle.sync_plan.specs.declared.report.Side.{Side}
use Rattle.sync_plan.specs.declared.seen.Seen.{Seen}
use Rattle.sync_plan.specs.Merging.{Within}
use Rattle.sync_plan.specs.Plans.{seen_of, HasNoTwin}
use Rattle.sync_plan.proofs.Rising.{first_cases, precedes_differs, within_all}
use Rattle.side_reads.specs.Places.{href_on, etag_on, is_text, is_at, row_at}
use Rattle.side_reads.specs.Holdings.{IsOfText, IsTakenFor, AreTaken}
use Rattle.job_runs.specs.Courses.{Course, IsRowAt}
use Rattle.job_runs.specs.Taken.{IsTaken, StandsOther, FoundNone, FoundAlone, Took}
use Rattle.job_reads.specs.Readings.{Reads, IsReadText}

-- ---- the row at a place

both_true : (a b : Bool) → (a && b) ≡ true → (a ≡ true) × (b ≡ true)
both_true true b h = (refl, h)
both_true false b h = absurd (false≢true h)

is_text_some : (o : Option (List ℕ)) (t : List ℕ) → is_text o t ≡ true → o ≡ Some t
is_text_some None t h = absurd (false≢true h)
is_text_some (Some u) t h = ap Some ((bytes_eq-Decides u t).0 h)

pub record IsFound (side : Side) (href etag : List ℕ) (rows : List Row) (row : Row) : Type 0 where
  pub is_in : Within row rows
  pub same_href : href_on side row ≡ Some href
  pub same_etag : etag_on side row ≡ Some etag

row_found : (side : Side) (href etag : List ℕ) (rows : List Row) (row : Row) → row_at side href etag rows ≡ Some row → IsFound side href etag rows row
row_found side href etag [] row e = cc
row_found side href etag (r ∷ rs) row e = at (λ h. row_found side href etag rs row h) (is_at side href etag r) refl e
  where
    at : (row_at side href etag rs ≡ Some row → IsFound side href etag rs row) → (b : Bool) → is_at side href etag r ≡ b → cond b (Some r) (row_at side href etag rs) ≡ Some row → IsFound side href etag (r ∷ rs) row
    at later true is h =
        let same : r ≡ row = cc in
        let both = both_true (is_text (href_on side r) href) (is_text (etag_on side r) etag) is in
        record {
          is_in = inl (sym same);
          same_href = ap (href_on side) (sym same) ∙ is_text_some (href_on side r) href both.0;
          same_etag = ap (etag_on side) (sym same) ∙ is_text_some (etag_on side r) etag both.1;
        }
    at later false is h =
        let rest = later h in
        record { is_in = inr rest.is_in; same_href = rest.same_href; same_etag = rest.same_etag }

-- ---- the entries of a listing, and what stands there

first_of_both : (a b : Bool) → T (a && b) → T a × T b
first_of_both true b h = (tt, h)
first_of_both false b h = absurd h

less_from : (r : Ordering) → T (is_lt r) → r ≡ Less
less_from Less h = refl
less_from Equal h = absurd h
less_from Greater h = absurd h

below_later : (x : List ℕ) (es : List (List ℕ × Held)) → T (below_all (slice_cmp nat_cmp) x es) → (e : List ℕ × Held) → Within e es → Precedes x e.0
below_later x [] h e within = elim within [ ]
below_later x (d ∷ es) h e (inl same) = let both = first_of_both (is_lt (slice_cmp nat_cmp x d.0)) (below_all (slice_cmp nat_cmp) x es) h in subst (λ (y : List ℕ × Held). Precedes x y.0) (sym same) (less_from (slice_cmp nat_cmp x d.0) both.0)
below_later x (d ∷ es) h e (inr later) = let both = first_of_both (is_lt (slice_cmp nat_cmp x d.0)) (below_all (slice_cmp nat_cmp) x es) h in below_later x es both.1 e later

decided : (x y : List ℕ) → (bytes_eq x y ≡ true → ⊥) → bytes_eq x y ≡ false
decided x y not = at (bytes_eq x y) refl
  where
    at : (b : Bool) → bytes_eq x y ≡ b → b ≡ false
    at true e = absurd (not e)
    at false e = refl

entry_stands : (es : List (List ℕ × Held)) → T (is_sorted (slice_cmp nat_cmp) es) → (e : List ℕ × Held) → Within e es → find (slice_cmp nat_cmp) e.0 es ≡ Some e.1
entry_stands [] sorted e within = elim within [ ]
entry_stands (d ∷ es) sorted e (inl same) =
    ap (λ (b : Bool). cond b (Some d.1) (find (slice_cmp nat_cmp) e.0 es)) (is_eq-slice_cmp e.0 d.0 ∙ (bytes_eq-Decides e.0 d.0).1 (ap (λ (x : List ℕ × Held). x.0) same)) ∙ ap (λ (x : List ℕ × Held). Some x.1) (sym same)
entry_stands (d ∷ es) sorted e (inr later) =
    let both = first_of_both (below_all (slice_cmp nat_cmp) d.0 es) (is_sorted (slice_cmp nat_cmp) es) sorted in
    ap (λ (b : Bool). cond b (Some d.1) (find (slice_cmp nat_cmp) e.0 es)) (is_eq-slice_cmp e.0 d.0 ∙ decided e.0 d.0 (λ h. precedes_differs d.0 e.0 (below_later d.0 es both.0 e later) (sym ((bytes_eq-Decides e.0 d.0).0 h))))
    ∙ entry_stands es both.1 e later

same_or_other : (x y : List ℕ) → (x ≡ y) ⊎ (x ≡ y → ⊥)
same_or_other x y = at (bytes_eq x y) refl
  where
    at : (b : Bool) → bytes_eq x y ≡ b → (x ≡ y) ⊎ (x ≡ y → ⊥)
    at true e = inl ((bytes_eq-Decides x y).0 e)
    at false e = inr (λ same. false≢true (sym e ∙ (bytes_eq-Decides x y).1 same))

place_within : (xs : List Seen) (x : Seen) → Within x xs → (i : ℕ) × (slice_get xs i ≡ Some x)
place_within [] x h = elim h [ ]
place_within (y ∷ ys) x (inl same) = (zero, ap Some (sym same))
place_within (y ∷ ys) x (inr later) = let rest = place_within ys x later in (suc rest.0, rest.1)

pub within_place : (xs : List Seen) (i : ℕ) (x : Seen) → slice_get xs i ≡ Some x → Within x xs
within_place [] i x e = cc
within_place (y ∷ ys) zero x e = inl (cc)
within_place (y ∷ ys) (suc i) x e = inr (within_place ys i x e)

-- where no two have one ident, one of the ident is the same
only_one : (xs : List Seen) (x y : Seen) → HasNoTwin xs → Within x xs → Within y xs → x.ident ≡ y.ident → x ≡ y
only_one xs x y alone is_x is_y same =
    let at_x = place_within xs x is_x in
    let at_y = place_within xs y is_y in
    let places : at_x.0 ≡ at_y.0 = alone.once at_x.0 at_y.0 x y at_x.1 at_y.1 same in
    let both : Some x ≡ Some y = sym at_x.1 ∙ (ap (slice_get xs) places ∙ at_y.1) in
    cc

-- ---- what is taken for an entry

module _ (side : Side) (rows : List Row) (fetched : List Fetched) where
  -- what is taken, for the entry of an href under an etag
  pub record IsOfEntry (href etag : List ℕ) (x : Seen) : Type 0 where
    pub text : Option ItemValue
    pub taken : IsTakenFor fetched (row_at side href etag rows) (record { href = href; etag = etag }) x text

  href_of : (o : Option Row) (e : Entry) (x : Seen) (text : Option ItemValue) → IsTakenFor fetched o e x text → x.href ≡ e.href
  href_of (Some row) e x text (of, none) = of.href
  href_of None e x text (f, within, at, of, is_text) = of.href ∙ at

  seen_entry : (es : List (List ℕ × Held)) (ss : List Seen) (ts : List (Option ItemValue)) → AreTaken side rows fetched (map entry_of es) ss ts → (x : Seen) → Within x ss → (e : List ℕ × Held) × Within e es × IsOfEntry e.0 (e.1).etag x
  seen_entry [] [] [] taken x within = elim within [ ]
  seen_entry (e ∷ es) (s ∷ ss) (t ∷ ts) taken x (inl same) = (e, inl refl, record { text = t; taken = subst (λ (y : Seen). IsTakenFor fetched (row_at side e.0 (e.1).etag rows) (entry_of e) y t) (sym same) taken.0 })
  seen_entry (e ∷ es) (s ∷ ss) (t ∷ ts) taken x (inr later) = let rest = seen_entry es ss ts taken.1 x later in (rest.0, inr rest.1, rest.2)
  seen_entry [] (s ∷ ss) ts taken x within = absurd taken
  seen_entry [] [] (t ∷ ts) taken x within = absurd taken
  seen_entry (e ∷ es) [] ts taken x within = absurd taken
  seen_entry (e ∷ es) (s ∷ ss) [] taken x within = absurd taken

  entry_seen : (es : List (List ℕ × Held)) (ss : List Seen) (ts : List (Option ItemValue)) → AreTaken side rows fetched (map entry_of es) ss ts → (q : List ℕ) (held : Held) → find (slice_cmp nat_cmp) q es ≡ Some held → (x : Seen) × Within x ss × IsOfEntry q held.etag x
  entry_seen [] ss ts taken q held is = cc
  entry_seen (e ∷ es) [] ts taken q held is = absurd taken
  entry_seen (e ∷ es) (s ∷ ss) [] taken q held is = absurd taken
  entry_seen (e ∷ es) (s ∷ ss) (t ∷ ts) taken q held is = at (λ h. entry_seen es ss ts taken.1 q held h) (eq_by_cmp (slice_cmp nat_cmp) q e.0) refl is
    where
      at : (find (slice_cmp nat_cmp) q es ≡ Some held → (x : Seen) × Within x ss × IsOfEntry q held.etag x) → (b : Bool) → eq_by_cmp (slice_cmp nat_cmp) q e.0 ≡ b → cond b (Some e.1) (find (slice_cmp nat_cmp) q es) ≡ Some held → (x : Seen) × Within x (s ∷ ss) × IsOfEntry q held.etag x
      at later true same h =
          let key : q ≡ e.0 = (bytes_eq-Decides q e.0).0 (sym (is_eq-slice_cmp q e.0) ∙ same) in
          let value : e.1 ≡ held = cc in
          (s, inl refl, subst (λ (k : List ℕ). IsOfEntry k held.etag s) (sym key) (subst (λ (v : Held). IsOfEntry e.0 v.etag s) value (record { text = t; taken = taken.0 })))
      at later false same h = let rest = later h in (rest.0, inr rest.1, rest.2)

-- ---- a side

module _ (c : Course) (entries : Vec Entry Global) (fetched : Vec Fetched Global) (reads : Reads c.side c.rows entries fetched c.entry c.read) where
  row_taken : (href etag : List ℕ) (held : Held) (row : Row) → row_at c.side href etag c.rows ≡ Some row → IsRowAt c row.ident (row.fp).0 href etag
  row_taken href etag held row is =
      let found = row_found c.side href etag c.rows row is in
      record { row = row; is_in = found.is_in; same_ident = refl; same_version = refl; same_href = found.same_href; same_etag = found.same_etag }

  since : Since c.entry reads.listed
  since = Since-from_evolves reads.from

  later : Since reads.listed c.read
  later = Since-from_evolves reads.until

  -- an entry's item is taken
  item_taken : (href : List ℕ) (held : Held) (x : Seen) (text : Option ItemValue) (o : Option Row) → row_at c.side href held.etag c.rows ≡ o → fin.get (reads.listed).content href ≡ Some held → IsTakenFor fetched.items o (record { href = href; etag = held.etag }) x text → IsTaken c x.ident (x.fp).0 x.href x.etag
  item_taken href held x text (Some row) is stands (of, none) =
      let known : IsRowAt c x.ident (x.fp).0 x.href x.etag =
      subst (λ (i : List ℕ). IsRowAt c i (x.fp).0 x.href x.etag) (sym of.ident) (subst (λ (v : List ℕ). IsRowAt c row.ident v x.href x.etag) (sym of.version) (subst (λ (h : List ℕ). IsRowAt c row.ident (row.fp).0 h x.etag) (sym of.href) (subst (λ (t : List ℕ). IsRowAt c row.ident (row.fp).0 href t) (sym of.etag) (row_taken href held.etag held row is))))
      in
      let here : fin.get (reads.listed).content x.href ≡ Some held = ap (fin.get (reads.listed).content) of.href ∙ stands in
      inr (record { moment = reads.listed; from = since; until = later; was = record { held = held; here = here; same_etag = sym of.etag } }, known)
  item_taken href held x text None is stands (f, within, at, of, is_text) =
      let was : WasFetched reads.listed c.read f = within_all (WasFetched reads.listed c.read) fetched.items reads.each f within in
      inl (Sometime-extends since (Sometime-weaker (λ m h. record {
        held = record { etag = f.etag; text = f.item.text };
        here = ap (fin.get m.content) of.href ∙ h;
        same_etag = sym of.etag;
        item = f.item;
        is_item = was.is_item;
        same_ident = sym of.ident;
        same_version = sym of.version;
      }) was.stood) (Evolves-refl c.read))

  -- an entry's item is of another ident
  other_taken : (ident href : List ℕ) (held : Held) (x : Seen) (text : Option ItemValue) (o : Option Row) → row_at c.side href held.etag c.rows ≡ o → (x.ident ≡ ident → ⊥) → IsTakenFor fetched.items o (record { href = href; etag = held.etag }) x text → Sometime (StandsOther ident href) reads.listed c.read ⊎ ((other : List ℕ) × (version : List ℕ) × (other ≡ ident → ⊥) × IsRowAt c other version href held.etag)
  other_taken ident href held x text (Some row) is differs (of, none) = inr (row.ident, (row.fp).0, (λ same. differs (of.ident ∙ same)), row_taken href held.etag held row is)
  other_taken ident href held x text None is differs (f, within, at, of, is_text) =
      let was : WasFetched reads.listed c.read f = within_all (WasFetched reads.listed c.read) fetched.items reads.each f within in
      inl (Sometime-weaker (λ m h. record {
        held = record { etag = f.etag; text = f.item.text };
        here = ap (fin.get m.content) (sym at) ∙ h;
        item = f.item;
        is_item = was.is_item;
        other = λ same. differs (of.ident ∙ same);
      }) was.stood)

  module _ (ss : List Seen) (ts : List (Option ItemValue)) (taken : AreTaken c.side c.rows fetched.items entries.items ss ts) where
    of_entries : AreTaken c.side c.rows fetched.items (map entry_of (fin.entries (reads.listed).content)) ss ts
    of_entries = subst (λ (es : List Entry). AreTaken c.side c.rows fetched.items es ss ts) reads.is_listing.1 taken

    pub each_taken : (x : Seen) → Within x ss → IsTaken c x.ident (x.fp).0 x.href x.etag
    each_taken x within =
        let found = seen_entry c.side c.rows fetched.items (fin.entries (reads.listed).content) ss ts of_entries x within in
        let e = found.0 in
        item_taken e.0 e.1 x found.2.text (row_at c.side e.0 (e.1).etag c.rows) refl (get-entries (reads.listed).content e.0 ∙ entry_stands (fin.entries (reads.listed).content) (entries_sorted (reads.listed).content) e found.1) found.2.taken

    pub none_taken : (ident : List ℕ) → ((x : Seen) → Within x ss → x.ident ≡ ident → ⊥) → FoundNone c ident
    none_taken ident none =
        record {
          listed = reads.listed;
          from = since;
          until = reads.until;
          each = λ href held stands.
              let found = entry_seen c.side c.rows fetched.items (fin.entries (reads.listed).content) ss ts of_entries href held (sym (get-entries (reads.listed).content href) ∙ stands) in
              other_taken ident href held found.0 found.2.text (row_at c.side href held.etag c.rows) refl (none found.0 found.1) found.2.taken;
        }

    -- the ident of an item stands at its href alone, where no two have one ident
    pub found_alone : HasNoTwin ss → (x : Seen) → Within x ss → FoundAlone c x.ident x.href
    found_alone alone x within =
        record {
          listed = reads.listed;
          from = since;
          until = reads.until;
          each = λ q held stands.
              let found = entry_seen c.side c.rows fetched.items (fin.entries (reads.listed).content) ss ts of_entries q held (sym (get-entries (reads.listed).content q) ∙ stands) in
              let o : Option Row = row_at c.side q held.etag c.rows in
              elim (same_or_other (found.0).ident x.ident) [
                | inl same ↦ inl (sym (href_of c.side c.rows fetched.items o (record { href = q; etag = held.etag }) found.0 found.2.text found.2.taken) ∙ ap (λ (y : Seen). y.href) (only_one ss found.0 x alone found.1 within same))
                | inr differs ↦ inr (other_taken x.ident q held found.0 found.2.text o refl differs found.2.taken)
              ];
        }

    pub took : (ident : List ℕ) → Took c ident (option_map (λ x. (x.fp).0) (seen_of ident ss))
    took ident = elim (first_cases (λ (x : Seen). x.ident) ident ss) [
      | inl none ↦ subst (λ (o : Option Seen). Took c ident (option_map (λ x. (x.fp).0) o)) (sym none.0) (none_taken ident none.1)
      | inr some ↦
          let x = some.0 in
          subst (λ (o : Option Seen). Took c ident (option_map (λ y. (y.fp).0) o)) (sym some.1)
          (x.href, x.etag, subst (λ (i : List ℕ). IsTaken c i (x.fp).0 x.href x.etag) some.3 (each_taken x some.2))
    ]

-- ---- a text that was fetched

module _ (side : Side) (rows : List Row) (fetched : List Fetched) where
  pub record IsFetched (x : Seen) (item : ItemValue) : Type 0 where
    pub one : Fetched
    pub is_in : Within one fetched
    pub of : IsOfText one x
    pub is_item : item ≡ one.item

  fetched_for : (o : Option Row) (e : Entry) (x : Seen) (item : ItemValue) → IsTakenFor fetched o e x (Some item) → IsFetched x item
  fetched_for (Some row) e x item (of, none) = cc
  fetched_for None e x item (f, within, at, of, is_text) = record { one = f; is_in = within; of = of; is_item = cc }

  fetched_at : (es : List Entry) (ss : List Seen) (ts : List (Option ItemValue)) (i : ℕ) (x : Seen) (item : ItemValue) → AreTaken side rows fetched es ss ts → slice_get ss i ≡ Some x → slice_get ts i ≡ Some (Some item) → IsFetched x item
  fetched_at [] [] [] i x item taken is_x is_item = cc
  fetched_at (e ∷ es) (s ∷ ss) (t ∷ ts) zero x item taken is_x is_item =
      let one : s ≡ x = cc in
      let two : t ≡ Some item = cc in
      fetched_for (row_at side e.href e.etag rows) e x item (subst (λ (y : Seen). IsTakenFor fetched (row_at side e.href e.etag rows) e y (Some item)) one (subst (λ (u : Option ItemValue). IsTakenFor fetched (row_at side e.href e.etag rows) e s u) two taken.0))
  fetched_at (e ∷ es) (s ∷ ss) (t ∷ ts) (suc i) x item taken is_x is_item = fetched_at es ss ts i x item taken.1 is_x is_item
  fetched_at [] (s ∷ ss) ts i x item taken is_x is_item = absurd taken
  fetched_at [] [] (t ∷ ts) i x item taken is_x is_item = absurd taken
  fetched_at (e ∷ es) [] ts i x item taken is_x is_item = absurd taken
  fetched_at (e ∷ es) (s ∷ ss) [] i x item taken is_x is_item = absurd taken

module _ (c : Course) (entries : Vec Entry Global) (fetched : Vec Fetched Global) (reads : Reads c.side c.rows entries fetched c.entry c.read) where
  read_of_fetched : (x : Seen) (item : ItemValue) → IsFetched c.side c.rows fetched.items x item → IsReadText c x item
  read_of_fetched x item found =
      let f = found.one in
      let was : WasFetched reads.listed c.read f = within_all (WasFetched reads.listed c.read) fetched.items reads.each f found.is_in in
      let since : Since c.entry reads.listed = Since-from_evolves reads.from in
      subst (λ (i : ItemValue). IsReadText c x i) (sym found.is_item) (record {
        is_item = was.is_item;
        same_ident = sym found.of.ident;
        same_version = sym found.of.version;
        stood = Sometime-extends since (Sometime-weaker (λ m h. (f.href, record { etag = f.etag; text = f.item.text }, h, refl)) was.stood) (Evolves-refl c.read);
        was_read = WasRead-extends since was.was_read (Evolves-refl c.read);
      })

  pub text_read : (ss : List Seen) (ts : List (Option ItemValue)) (i : ℕ) (x : Seen) (item : ItemValue) → AreTaken c.side c.rows fetched.items entries.items ss ts → slice_get ss i ≡ Some x → slice_get ts i ≡ Some (Some item) → IsReadText c x item
  text_read ss ts i x item taken is_x is_item = read_of_fetched x item (fetched_at c.side c.rows fetched.items entries.items ss ts i x item taken is_x is_item)
