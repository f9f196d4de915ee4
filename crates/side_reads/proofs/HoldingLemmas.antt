-- What is taken for a listing, from its last entry to its first.
use Rattle.std.proofs.Common.{◌≡◌, inl, inr, refl, ℕ, cond, List, [], ◌∷◌, ◌++◌, filter, map, reverse, Option, Some, None, sym, ◌∙◌, ap, subst, append-nil}
use Rattle.std.specs.Prelude.{is_none}
use Rattle.std.proofs.lemmas.List.{map-append, reverse-append, reverse-reverse}
use Rattle.std.proofs.Math.Seq.{append_snoc}
use Rattle.std.proofs.lemmas.List.Elements.{filter-append}
use Rattle.item_text.specs.Items.{ItemValue}
use Rattle.status_keeper.specs.declared.row.Row.{Row}
use Rattle.store_model.specs.declared.store.Entry.{Entry}
use Rattle.store_model.specs.declared.store.Fetched.{Fetched}
use Rattle.sync_plan.specs.declared.report.Side.{Side}
use Rattle.sync_plan.specs.declared.seen.Seen.{Seen}
use Rattle.sync_plan.specs.Merging.{Within}
use Rattle.side_reads.specs.Places.{row_at}
use Rattle.side_reads.specs.Holdings.{is_unknown, asked, IsTakenFor, AreTaken, IsLastTaken}

abbrev href_of : Fetched → List ℕ
href_of f = f.href

-- two lists that end with an element each
pub ends : {X : Type 0} (xs ys : List X) (x y : X) → xs ++ x ∷ [] ≡ ys ++ y ∷ [] → (xs ≡ ys) × (x ≡ y)
ends xs ys x y same =
    let turned : x ∷ reverse xs ≡ y ∷ reverse ys = sym (reverse-append xs (x ∷ [])) ∙ (ap reverse same ∙ reverse-append ys (y ∷ [])) in
    let heads : x ≡ y = cc in
    let tails : reverse xs ≡ reverse ys = cc in
    (sym (reverse-reverse xs) ∙ (ap reverse tails ∙ reverse-reverse ys), heads)

asked_append : (side : Side) (rows : List Row) (es : List Entry) (e : Entry) → asked side rows (es ++ e ∷ []) ≡ asked side rows es ++ asked side rows (e ∷ [])
asked_append side rows es e = ap (map (λ (x : Entry). x.href)) (filter-append (is_unknown side rows) es (e ∷ [])) ∙ map-append (λ (x : Entry). x.href) (filter (is_unknown side rows) es) (filter (is_unknown side rows) (e ∷ []))

within_front : (f : Fetched) (xs ys : List Fetched) → Within f xs → Within f (xs ++ ys)
within_front f [] ys is = absurd is
within_front f (x ∷ xs) ys (inl is) = inl is
within_front f (x ∷ xs) ys (inr is) = inr (within_front f xs ys is)

within_last : (f : Fetched) (xs : List Fetched) → Within f (xs ++ f ∷ [])
within_last f [] = inl refl
within_last f (x ∷ xs) = inr (within_last f xs)

-- what has been taken of the last entries, where these entries and items are left
pub record TakenSoFar (side : Side) (rows : List Row) (all : List Entry) (fetched : List Fetched) (left : List Entry) (more : List Fetched) (seen : List Seen) (items : List (Option ItemValue)) : Type 0 where
  pub behind : List Entry
  pub whole : all ≡ left ++ behind
  pub asks : map (λ (f : Fetched). f.href) more ≡ asked side rows left
  pub among : (f : Fetched) → Within f more → Within f fetched
  pub taken : AreTaken side rows fetched behind (reverse seen) (reverse items)

pub first : (side : Side) (rows : List Row) (all : List Entry) (fetched : List Fetched) → map (λ (f : Fetched). f.href) fetched ≡ asked side rows all → TakenSoFar side rows all fetched all fetched [] []
first side rows all fetched asks = record { behind = []; whole = sym (append-nil all); asks = asks; among = λ f is. is; taken = tt }

pub last : (side : Side) (rows : List Row) (all : List Entry) (fetched more : List Fetched) (left : List Entry) (seen : List Seen) (items : List (Option ItemValue)) → left ≡ [] → TakenSoFar side rows all fetched left more seen items → AreTaken side rows fetched all (reverse seen) (reverse items)
last side rows all fetched more left seen items none so_far =
    let is : all ≡ so_far.behind = so_far.whole ∙ ap (λ (l : List Entry). l ++ so_far.behind) none in
    subst (λ (l : List Entry). AreTaken side rows fetched l (reverse seen) (reverse items)) (sym is) so_far.taken

-- one more entry
pub next : (side : Side) (rows : List Row) (all : List Entry) (fetched more more' : List Fetched) (left left' : List Entry) (e : Entry) (seen : List Seen) (items : List (Option ItemValue)) (s : Seen) (t : Option ItemValue)
    → left ≡ left' ++ e ∷ [] → IsLastTaken (row_at side e.href e.etag rows) e more more' s t → TakenSoFar side rows all fetched left more seen items → TakenSoFar side rows all fetched left' more' (seen ++ s ∷ []) (items ++ t ∷ [])
next side rows all fetched more more' left left' e seen items s t cut taken so_far = by (row_at side e.href e.etag rows) refl taken
  where
    whole_by : all ≡ left' ++ e ∷ so_far.behind
    whole_by = so_far.whole ∙ (ap (λ (l : List Entry). l ++ so_far.behind) cut ∙ append_snoc left' e so_far.behind)

    asks_by : map href_of more ≡ asked side rows left' ++ asked side rows (e ∷ [])
    asks_by = so_far.asks ∙ (ap (asked side rows) cut ∙ asked_append side rows left' e)

    one_asked : (o : Option Row) → row_at side e.href e.etag rows ≡ o → asked side rows (e ∷ []) ≡ map (λ (x : Entry). x.href) (cond (is_none o) (e ∷ []) [])
    one_asked o is = ap (λ (x : Option Row). map (λ (y : Entry). y.href) (cond (is_none x) (e ∷ []) [])) is

    put : (o : Option Row) → row_at side e.href e.etag rows ≡ o → IsTakenFor fetched o e s t → AreTaken side rows fetched (e ∷ so_far.behind) (reverse (seen ++ s ∷ [])) (reverse (items ++ t ∷ []))
    put o is one =
        let here : IsTakenFor fetched (row_at side e.href e.etag rows) e s t = subst (λ (x : Option Row). IsTakenFor fetched x e s t) (sym is) one in
        subst (λ (l : List Seen). AreTaken side rows fetched (e ∷ so_far.behind) l (reverse (items ++ t ∷ []))) (sym (reverse-append seen (s ∷ [])))
        (subst (λ (l : List (Option ItemValue)). AreTaken side rows fetched (e ∷ so_far.behind) (s ∷ reverse seen) l) (sym (reverse-append items (t ∷ []))) (here, so_far.taken))

    by : (o : Option Row) → row_at side e.href e.etag rows ≡ o → IsLastTaken o e more more' s t → TakenSoFar side rows all fetched left' more' (seen ++ s ∷ []) (items ++ t ∷ [])
    by (Some row) is (of_row, none, same) =
        record {
          behind = e ∷ so_far.behind;
          whole = whole_by;
          asks = ap (map href_of) same ∙ (asks_by ∙ (ap (λ (l : List (List ℕ)). asked side rows left' ++ l) (one_asked (Some row) is) ∙ append-nil (asked side rows left')));
          among = λ f within. so_far.among f (subst (λ (l : List Fetched). Within f l) same within);
          taken = put (Some row) is (of_row, none);
        }
    by None is (f, more_is, of_text, text) =
        let hrefs : map href_of more' ++ f.href ∷ [] ≡ asked side rows left' ++ e.href ∷ [] = sym (map-append href_of more' (f ∷ [])) ∙ (sym (ap (map href_of) more_is) ∙ (asks_by ∙ ap (λ (l : List (List ℕ)). asked side rows left' ++ l) (one_asked None is))) in
        let both = ends (map href_of more') (asked side rows left') f.href e.href hrefs in
        record {
          behind = e ∷ so_far.behind;
          whole = whole_by;
          asks = both.0;
          among = λ g within. so_far.among g (subst (λ (l : List Fetched). Within g l) (sym more_is) (within_front g more' (f ∷ []) within));
          taken = put None is (f, so_far.among f (subst (λ (l : List Fetched). Within f l) (sym more_is) (within_last f more')), both.1, of_text, text);
        }
