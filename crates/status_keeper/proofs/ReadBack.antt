-- What the parts of a status read as.
use Rattle.std.proofs.Common.{◌≡◌, ℕ, ◌<◌, true, false, cond, List, [], ◌∷◌, ◌++◌, length, Option, Some, None, Ok, Err, String, Global, string_bytes, refl, sym, ap, ◌∙◌, arith}
use Rattle.std.specs.List.{AllByRecursion}
use Rattle.std.specs.Str.{IsUtf8, is_utf8}
use Rattle.std.proofs.lemmas.Str.{is_utf8-from_IsUtf8, IsUtf8-from_is_utf8}
use Rattle.serde_json.specs.Data.{Data, array, object, Members}
use Rattle.serde_json.specs.Read.{read}
use Rattle.serde_json.specs.View.{view, items_view, members_view}
use Rattle.serde_json.specs.declared.value.Value.{Value}
use Rattle.status_keeper.specs.declared.row.Row.{Row}
use Rattle.status_keeper.specs.declared.keeper.KeeperError.{KeeperError}
use Rattle.status_keeper.specs.declared.keeper.KeeperError.TheVariants.{Damaged}
use Rattle.status_keeper.specs.Reading.{FpReads}
use Rattle.status_keeper.specs.Status.{Kept, null_or, row_data, rows_data, status_data, text_at, row_from, status_rows, row_or_bad, next_number, with_row, rows_from, kept_members, kept_data, kept_text}

-- a row has five parts
pub not_five : (ident : List ℕ) (vs : List Value) → (length vs ≡ 5 → ⊥) → row_from ident (array (items_view vs)) ≡ None
not_five ident [] h = refl
not_five ident (a ∷ []) h = refl
not_five ident (a ∷ b ∷ []) h = refl
not_five ident (a ∷ b ∷ c ∷ []) h = refl
not_five ident (a ∷ b ∷ c ∷ d ∷ []) h = refl
not_five ident (a ∷ b ∷ c ∷ d ∷ e ∷ []) h = absurd (h refl)
not_five ident (a ∷ b ∷ c ∷ d ∷ e ∷ f ∷ vs) h = refl

-- a status has two members
pub not_two : (es : List (String Global × Value)) → (length es ≡ 2 → ⊥) → status_rows (object (members_view es)) ≡ None
not_two [] h = refl
not_two (a ∷ []) h = refl
not_two (a ∷ b ∷ []) h = absurd (h refl)
not_two (a ∷ b ∷ c ∷ es) h = refl

text_at-null_or : (o : Option (List ℕ)) → text_at (null_or o) ≡ Some o
text_at-null_or None = refl
text_at-null_or (Some text) = refl

-- a row's parts read as the row
row_back : (row : Row) → FpReads row → row_from row.ident (row_data row) ≡ Some row
row_back row h = rw (h, text_at-null_or row.href_a, text_at-null_or row.etag_a, text_at-null_or row.href_b, text_at-null_or row.etag_b) refl

pub rows_back : (k : ℕ) (rows : List Row) → AllByRecursion FpReads rows → rows_from k (rows_data rows) ≡ Ok rows
rows_back k [] all = refl
rows_back k (row ∷ rows) all =
    ap (λ o. row_or_bad k o (rows_from (next_number k) (rows_data rows))) (row_back row all.0)
    ∙ ap (with_row row) (rows_back (next_number k) rows all.1)

-- a text that is read as the status of these rows means them
pub means_rows : (text : List ℕ) (rows : List Row) → is_utf8 text ≡ true → read text ≡ Some (status_data rows) → AllByRecursion FpReads rows → kept_text text ≡ Ok rows
unfolding kept_text
means_rows text rows utf8 reads all =
    ap (λ b. cond b (kept_data (read text)) (kept_data None)) utf8
    ∙ ap kept_data reads
    ∙ rows_back 1 rows all

-- these rows before what the rest means: what a reading comes to
abbrev pub onto : List Row → Kept → Kept
onto [] rest = rest
onto (row ∷ done) rest = with_row row (onto done rest)

pub onto-more : (done : List Row) (row : Row) (rest : Kept) → onto (done ++ row ∷ []) rest ≡ onto done (with_row row rest)
onto-more [] row rest = refl
onto-more (d ∷ done) row rest = ap (with_row d) (onto-more done row rest)

pub onto-none : (done : List Row) → onto done (Ok []) ≡ Ok done
onto-none [] = refl
onto-none (d ∷ done) = ap (with_row d) (onto-none done)

pub onto-err : (done : List Row) (e : KeeperError) → onto done (Err e) ≡ Err e
onto-err [] e = refl
onto-err (d ∷ done) e = ap (with_row d) (onto-err done e)

abbrev Entry : Type 0
Entry = String Global × Value

-- the next member is no row
pub bad_next : (done : List Row) (n : ℕ) (es more : List Entry) (ident : String Global) (value : Value) (whole : Kept) → es ≡ (ident, value) ∷ more → None ≡ row_from (string_bytes ident) (view value) → onto done (rows_from n (members_view es)) ≡ whole → whole ≡ Err (Damaged n)
bad_next done n es more ident value whole is bad h =
    sym h
    ∙ ap (λ (l : List Entry). onto done (rows_from n (members_view l))) is
    ∙ ap (λ (o : Option Row). onto done (row_or_bad n o (rows_from (next_number n) (members_view more)))) (sym bad)
    ∙ onto-err done (Damaged n)

-- the next member is a row
pub good_next : (done rows : List Row) (n m : ℕ) (es more : List Entry) (ident : String Global) (value : Value) (row : Row) (whole : Kept) → es ≡ (ident, value) ∷ more → Some row ≡ row_from (string_bytes ident) (view value) → rows ≡ done ++ row ∷ [] → m ≡ next_number n → onto done (rows_from n (members_view es)) ≡ whole → onto rows (rows_from m (members_view more)) ≡ whole
good_next done rows n m es more ident value row whole is good pushed next h =
    ap (λ (l : List Row). onto l (rows_from m (members_view more))) pushed
    ∙ onto-more done row (rows_from m (members_view more))
    ∙ ap (λ (k : ℕ). onto done (with_row row (rows_from k (members_view more)))) next
    ∙ ap (λ (o : Option Row). onto done (row_or_bad n o (rows_from (next_number n) (members_view more)))) good
    ∙ sym (ap (λ (l : List Entry). onto done (rows_from n (members_view l))) is)
    ∙ h

-- no member is left
pub none_left : (done : List Row) (n : ℕ) (es : List Entry) (whole : Kept) → (0 < length es → ⊥) → onto done (rows_from n (members_view es)) ≡ whole → whole ≡ Ok done
none_left done n [] whole none h = sym h ∙ onto-none done
none_left done n (e ∷ es) whole none h = absurd (none (omega arith))

-- what a text means that is read
pub kept_by : (bytes : List ℕ) (d : Data) (members : Option Members) → IsUtf8 bytes → read bytes ≡ Some d → status_rows d ≡ members → kept_text bytes ≡ kept_members members
unfolding kept_text
kept_by bytes d members utf8 reads rows =
    ap (λ b. cond b (kept_data (read bytes)) (kept_data None)) (is_utf8-from_IsUtf8 bytes utf8)
    ∙ ap kept_data reads
    ∙ ap kept_members rows

-- what a text means that isn't
pub kept_unread : (bytes : List ℕ) → (IsUtf8 bytes → read bytes ≡ None) → kept_text bytes ≡ Err (Damaged 0)
unfolding kept_text
kept_unread bytes h =
    elim (is_utf8 bytes) as (λ b. is_utf8 bytes ≡ b → cond b (kept_data (read bytes)) (Err (Damaged 0)) ≡ Err (Damaged 0)) [
      | true ↦ λ e. ap kept_data (h (IsUtf8-from_is_utf8 bytes e))
      | false ↦ λ e. refl
    ] refl
