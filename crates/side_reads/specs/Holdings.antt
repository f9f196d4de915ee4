-- What a run takes a side to hold: for each entry of its listing the item that a row has at its place, or else the item that was fetched (this project's own).
use Rattle.std.specs.Prelude.{◌≡◌, ℕ, Bool, List, [], ◌∷◌, ◌++◌, map, filter, is_none, Option, Some, None}
use Rattle.item_text.specs.Items.{ItemValue}
use Rattle.status_keeper.specs.declared.row.Row.{Row}
use Rattle.store_model.specs.declared.store.Entry.{Entry}
use Rattle.store_model.specs.declared.store.Fetched.{Fetched}
use Rattle.sync_plan.specs.declared.report.Side.{Side}
use Rattle.sync_plan.specs.declared.seen.Seen.{Seen}
use Rattle.sync_plan.specs.Merging.{Within}
use Rattle.side_reads.specs.Places.{row_at}

-- no row has the entry's place
abbrev pub is_unknown : Side → List Row → Entry → Bool
is_unknown side rows e = is_none (row_at side e.href e.etag rows)

-- the hrefs that are fetched, in the listing's order
abbrev pub asked : Side → List Row → List Entry → List (List ℕ)
asked side rows es = map (λ e. e.href) (filter (is_unknown side rows) es)

-- the entry has the ident and version of the row
pub record IsOfRow (e : Entry) (row : Row) (seen : Seen) : Type 0 where
  pub ident : seen.ident ≡ row.ident
  pub version : (seen.fp).0 ≡ (row.fp).0
  pub href : seen.href ≡ e.href
  pub etag : seen.etag ≡ e.etag

-- it has those of the text that was fetched, and the etag of that text
pub record IsOfText (f : Fetched) (seen : Seen) : Type 0 where
  pub ident : seen.ident ≡ f.item.ident
  pub version : (seen.fp).0 ≡ f.item.version
  pub href : seen.href ≡ f.href
  pub etag : seen.etag ≡ f.etag

-- what is taken for an entry, with the text where it was fetched
abbrev pub IsTakenFor : List Fetched → Option Row → Entry → Seen → Option ItemValue → Type 0
IsTakenFor fetched (Some row) e s text = IsOfRow e row s × (text ≡ None)
IsTakenFor fetched None e s text = (f : Fetched) × Within f fetched × (f.href ≡ e.href) × IsOfText f s × (text ≡ Some f.item)

-- one for each entry, in the listing's order
abbrev pub AreTaken : Side → List Row → List Fetched → List Entry → List Seen → List (Option ItemValue) → Type 0
AreTaken side rows fetched [] [] [] = Unit {0}
AreTaken side rows fetched (e ∷ es) (s ∷ ss) (t ∷ ts) = IsTakenFor fetched (row_at side e.href e.etag rows) e s t × AreTaken side rows fetched es ss ts
AreTaken side rows fetched [] (s ∷ ss) ts = ⊥
AreTaken side rows fetched [] [] (t ∷ ts) = ⊥
AreTaken side rows fetched (e ∷ es) [] ts = ⊥
AreTaken side rows fetched (e ∷ es) (s ∷ ss) [] = ⊥

-- what is taken for the last entry of a listing, and what is left of the fetched items (what the functions of this crate say to each other)
abbrev pub IsLastTaken : Option Row → Entry → List Fetched → List Fetched → Seen → Option ItemValue → Type 0
IsLastTaken (Some row) e before after s text = IsOfRow e row s × (text ≡ None) × (after ≡ before)
IsLastTaken None e before after s text = (f : Fetched) × (before ≡ after ++ f ∷ []) × IsOfText f s × (text ≡ Some f.item)
