-- Rows and members in byte order of idents.
use Rattle.std.proofs.Common.{◌≡◌, ℕ, List, [], ◌∷◌, ◌++◌, map, Less, Greater, String, Global, string_bytes, string_cmp, nat_cmp, refl, sym, ap, ◌∙◌, subst, append_assoc, append-nil}
use Rattle.std.proofs.lemmas.Cmp.{nat_list_cmp_total}
use Rattle.std.proofs.lemmas.Map.Keys.{sorted_head, sorted_tail}
use Rattle.std.specs.Cmp.Lexicographic.{slice_cmp}
use Rattle.std.specs.List.{AllByRecursion}
use Rattle.std.specs.List.Sorted.{IsStrictlySortedBy}
use Rattle.std.specs.Map.{keys_of}
use Rattle.std.specs.Ordering.{ordering_reverse}
use Rattle.serde_json.specs.Data.{Members, no_members, member, put}
use Rattle.serde_json.specs.declared.value.Value.{Value}
use Rattle.status_keeper.specs.declared.row.Row.{Row}
use Rattle.status_keeper.specs.Idents.{Precedes, IsRising}
use Rattle.status_keeper.specs.Rows.{row_idents}
use Rattle.status_keeper.specs.Status.{row_data, rows_data}

abbrev Entry : Type 0
Entry = String Global × Value

-- the keys of these entries, as texts
abbrev pub key_texts : List Entry → List (List ℕ)
key_texts es = map (λ e. string_bytes e.0) es

before_all : (k : String Global) (es : List Entry) → AllByRecursion (λ y. string_cmp k y ≡ Less) (keys_of es) → AllByRecursion (λ y. Precedes (string_bytes k) y) (key_texts es)
before_all k [] h = tt
before_all k (e ∷ es) h = (h.0, before_all k es h.1)

pub rising_keys : (es : List Entry) → IsStrictlySortedBy string_cmp (keys_of es) → IsRising (key_texts es)
rising_keys [] h = tt
rising_keys (e ∷ es) h = (before_all e.0 es (sorted_head string_cmp e.0 (keys_of es) h), rising_keys es (sorted_tail string_cmp e.0 (keys_of es) h))

-- one more row of the idents
pub idents_more : (done : List Row) (row : Row) (rest : List (List ℕ)) → row_idents done ++ row.ident ∷ rest ≡ row_idents (done ++ row ∷ []) ++ rest
idents_more [] row rest = refl
idents_more (d ∷ done) row rest = ap (λ l. d.ident ∷ l) (idents_more done row rest)

before_middle : (x : List ℕ) (done : List Row) (row : Row) (rest : List Row) → AllByRecursion (λ y. Precedes x y) (row_idents (done ++ row ∷ rest)) → Precedes x row.ident
before_middle x [] row rest h = h.0
before_middle x (d ∷ done) row rest h = before_middle x done row rest h.1

-- a row whose ident is past those before it goes last
put_last : (done : List Row) (row : Row) (rest : List Row) → IsRising (row_idents (done ++ row ∷ rest)) → put row.ident (row_data row) (rows_data done) ≡ rows_data (done ++ row ∷ [])
put_last [] row rest h = refl
put_last (d ∷ done) row rest h =
    let above : slice_cmp nat_cmp row.ident d.ident ≡ Greater =
    nat_list_cmp_total.antisymm row.ident d.ident ∙ ap ordering_reverse (before_middle d.ident done row rest h.0) in
    rw above (ap (member d.ident (row_data d)) (put_last done row rest h.1))

-- these rows put into members, the first of them first
abbrev pub put_all : Members → List Row → Members
put_all members [] = members
put_all members (row ∷ rows) = put_all (put row.ident (row_data row) members) rows

put_onto : (done rows : List Row) → IsRising (row_idents (done ++ rows)) → put_all (rows_data done) rows ≡ rows_data (done ++ rows)
put_onto done [] h = ap rows_data (sym (append-nil done))
put_onto done (row ∷ rows) h =
    let joined : (done ++ row ∷ []) ++ rows ≡ done ++ row ∷ rows = append_assoc done (row ∷ []) rows in
    ap (λ m. put_all m rows) (put_last done row rows h)
    ∙ put_onto (done ++ row ∷ []) rows (subst (λ (l : List Row). IsRising (row_idents l)) (sym joined) h)
    ∙ ap rows_data joined

pub put_all-rows : (rows : List Row) → IsRising (row_idents rows) → put_all no_members rows ≡ rows_data rows
put_all-rows rows h = put_onto [] rows h

-- the next member goes to the rows
pub rising_next : (done rows : List Row) (row : Row) (ident : String Global) (value : Value) (es more : List Entry) → rows ≡ done ++ row ∷ [] → es ≡ (ident, value) ∷ more → row.ident ≡ string_bytes ident → IsRising (row_idents done ++ key_texts es) → IsRising (row_idents rows ++ key_texts more)
rising_next done rows row ident value es more pushed is same h =
    let moved : row_idents done ++ key_texts es ≡ row_idents (done ++ row ∷ []) ++ key_texts more =
    ap (λ (l : List Entry). row_idents done ++ key_texts l) is
    ∙ ap (λ (x : List ℕ). row_idents done ++ x ∷ key_texts more) (sym same)
    ∙ idents_more done row (key_texts more) in
    subst (λ (l : List Row). IsRising (row_idents l ++ key_texts more)) (sym pushed) (subst (λ (l : List (List ℕ)). IsRising l) moved h)
