-- TextReads: the items that texts read as, one text or one group more.
use Rattle.std.proofs.Common.{◌≡◌, ◌⊎◌, inl, inr, ℕ, ◌+◌, ◌<◌, ◌≤◌, List, [], ◌∷◌, ◌++◌, map, length, drop, get_or, Result, Ok, Err, sym, ◌∙◌, ap, append_assoc}
use Rattle.std.specs.List.{flat_map}
use Rattle.std.proofs.lemmas.List.{map-append, drop_more, drop_all}
use Rattle.item_text.specs.Items.{ItemValue, read_item}
use Rattle.item_text.specs.declared.item.ItemError.{ItemError}
use Rattle.item_text.specs.declared.item.ItemError.TheVariants.{NoMemory}
use Rattle.file_text.specs.Groups.{some_group}
use Rattle.file_text.specs.Spans.{part_at, parts_at}
use Rattle.file_text.specs.Splits.{go_on, read_behind, texts_of}
use Rattle.file_text.specs.declared.marks.Mark.{Mark}
use Rattle.file_text.specs.declared.parts.Span.{Span}

abbrev Answer : Type 0
Answer = Result ItemValue ItemError

pub read_one : (items more : List ItemValue) (text bytes : List ℕ) (item : ItemValue) → bytes ≡ text → (◌≡◌ {A = Answer} (Ok item) (Err NoMemory)) ⊎ (◌≡◌ {A = Answer} (Ok item) (read_item bytes)) → more ≡ items ++ item ∷ []
    → (rest : List (List ℕ)) → read_behind items (text ∷ rest) ≡ read_behind more rest
unfolding read_behind go_on
read_one items more text bytes item same (inl h) put rest = absurd (cc)
read_one items more text bytes item same (inr h) put rest =
    ap (λ (r : Answer). go_on r (λ item. read_behind (items ++ item ∷ []) rest)) (sym (h ∙ ap read_item same)) ∙ ap (λ (is : List ItemValue). read_behind is rest) (sym put)

pub read_none : (items : List ItemValue) (text bytes : List ℕ) (error : ItemError) → bytes ≡ text → (◌≡◌ {A = Answer} (Err error) (Err NoMemory)) ⊎ (◌≡◌ {A = Answer} (Err error) (read_item bytes))
    → (error ≡ NoMemory) ⊎ ((rest : List (List ℕ)) → read_behind items (text ∷ rest) ≡ Err error)
unfolding read_behind go_on
read_none items text bytes error same (inl h) = inl (cc)
read_none items text bytes error same (inr h) = inr (λ rest. ap (λ (r : Answer). go_on r (λ item. read_behind (items ++ item ∷ []) rest)) (sym (h ∙ ap read_item same)))

-- texts before others
pub texts_first : (old : List ItemValue) (all first rest more : List (List ℕ)) → all ≡ first ++ rest → read_behind old (all ++ more) ≡ read_behind old (first ++ (rest ++ more))
texts_first old all first rest more h = ap (λ (ts : List (List ℕ)). read_behind old (ts ++ more)) h ∙ ap (read_behind old) (append_assoc first rest more)

-- the texts of a group before those behind it
pub group_first : (old : List ItemValue) (text : List (List Mark) → List ℕ) (all rest : List (List (List Mark))) (found group : List (List Mark)) (more : List (List ℕ)) → all ≡ some_group group ++ rest → found ≡ group
    → read_behind old (map text all ++ more) ≡ read_behind old (map text (some_group found) ++ (map text rest ++ more))
group_first old text all rest found group more h e =
    texts_first old (map text all) (map text (some_group group)) (map text rest) more (ap (map text) h ∙ map-append text (some_group group) rest)
    ∙ ap (λ (g : List (List Mark)). read_behind old (map text (some_group g) ++ (map text rest ++ more))) (sym e)

-- the texts of a component before those of the components behind it
pub component_first : (old : List ItemValue) (lines : List Mark) (components : List Span) (i : ℕ) (d span : Span) → i < length components → span ≡ get_or components i d
    → read_behind old (flat_map texts_of (parts_at lines (drop i components))) ≡ read_behind old (texts_of (part_at lines span) ++ flat_map texts_of (parts_at lines (drop (i + 1) components)))
component_first old lines components i d span h e =
    ap (λ (cs : List Span). read_behind old (flat_map texts_of (parts_at lines cs))) (drop_more components i d h ∙ ap (λ (s : Span). s ∷ drop (i + 1) components) (sym e))

pub components_end : (items : List ItemValue) (lines : List Mark) (components : List Span) (i : ℕ) → length components ≤ i → read_behind items (flat_map texts_of (parts_at lines (drop i components))) ≡ Ok items
unfolding read_behind
components_end items lines components i h = ap (λ (cs : List Span). read_behind items (flat_map texts_of (parts_at lines cs))) (drop_all i components h)
