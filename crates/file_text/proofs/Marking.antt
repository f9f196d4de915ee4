-- Marking: one line of a file more.
use Rattle.std.proofs.Common.{◌≡◌, ℕ, List, [], ◌∷◌, ◌++◌, Option, Some, None, sym, ◌∙◌, ap, append_assoc, append-nil}
use Rattle.item_text.specs.Lines.{Line, trimmed}
use Rattle.item_text.specs.Components.{Kind, kind_of, Place}
use Rattle.item_text.specs.declared.item.ItemError.{ItemError}
use Rattle.item_text.specs.Refusals.{else_of}
use Rattle.file_text.specs.Marks.{fault_in_file, fault_of_end, next_in_file, refusal_from, marked, marks_from}
use Rattle.file_text.specs.Opened.{Found, found_behind}
use Rattle.file_text.specs.declared.marks.Mark.{Mark}

same_found : (refusal other : Option ItemError) (marks more : List Mark) → refusal ≡ other → marks ≡ more → ◌≡◌ {A = Found} (record { refusal = refusal; marks = marks }) (record { refusal = other; marks = more })
same_found refusal other marks more h k = cc

none_first : (fault : Option ItemError) (rest : Option ItemError) → fault ≡ None → rest ≡ else_of fault rest
unfolding else_of
none_first fault rest h = sym (ap (λ (f : Option ItemError). else_of f rest) h)

some_first : (fault : Option ItemError) (rest : Option ItemError) (error : ItemError) → fault ≡ Some error → else_of fault rest ≡ Some error
unfolding else_of
some_first fault rest error h = ap (λ (f : Option ItemError). else_of f rest) h

module _ (line : Line) (place : Place) (text : List ℕ) (kind : Kind) (text_is : text ≡ trimmed line.text) (kind_seen : kind ≡ kind_of text) where
  kind_is : kind ≡ kind_of (trimmed line.text)
  kind_is = kind_seen ∙ ap kind_of text_is

  pub walked : (marks more : List Mark) (next : Place) (count : ℕ) (rest : List Line) → fault_in_file line.number place kind ≡ None → more ≡ marks ++ marked place text kind → next ≡ next_in_file place kind
      → found_behind more next count rest ≡ found_behind marks place count (line ∷ rest)
  unfolding found_behind refusal_from marks_from
  walked marks more next count rest fine more_is next_is =
      let at : next ≡ next_in_file place (kind_of (trimmed line.text)) = next_is ∙ ap (next_in_file place) kind_is in
      let none : fault_in_file line.number place (kind_of (trimmed line.text)) ≡ None = ap (fault_in_file line.number place) (sym kind_is) ∙ fine in
      let mark_is : marked place text kind ≡ marked place (trimmed line.text) (kind_of (trimmed line.text)) = ap (λ (t : List ℕ). marked place t kind) text_is ∙ ap (marked place (trimmed line.text)) kind_is in
      same_found _ _ _ _
      (ap (λ (p : Place). refusal_from count p rest) at ∙ none_first _ (refusal_from count (next_in_file place (kind_of (trimmed line.text))) rest) none)
      (ap (λ (ms : List Mark). ms ++ marks_from next rest) (more_is ∙ ap (λ (ms : List Mark). marks ++ ms) mark_is)
      ∙ (ap (λ (p : Place). (marks ++ marked place (trimmed line.text) (kind_of (trimmed line.text))) ++ marks_from p rest) at
      ∙ append_assoc marks (marked place (trimmed line.text) (kind_of (trimmed line.text))) (marks_from (next_in_file place (kind_of (trimmed line.text))) rest)))

  pub stopped : (marks : List Mark) (count : ℕ) (rest : List Line) (error : ItemError) → fault_in_file line.number place kind ≡ Some error → (found_behind marks place count (line ∷ rest)).refusal ≡ Some error
  unfolding found_behind refusal_from
  stopped marks count rest error h = some_first _ _ error (ap (fault_in_file line.number place) (sym kind_is) ∙ h)

-- all lines are gone over
pub ended : (marks : List Mark) (place start : Place) (count : ℕ) (left all : List Line) → left ≡ [] → found_behind marks place count left ≡ found_behind [] start count all → (refusal_from count start all ≡ fault_of_end count place) × (marks ≡ marks_from start all)
unfolding found_behind refusal_from marks_from
ended marks place start count left all none same =
    let all_same : found_behind [] start count all ≡ found_behind marks place count [] = sym same ∙ ap (found_behind marks place count) none in
    (ap (λ (f : Found). f.refusal) all_same, sym (append-nil marks) ∙ sym (ap (λ (f : Found). f.marks) all_same))

pub refused : (marks : List Mark) (place start : Place) (count : ℕ) (left all : List Line) (error : ItemError) → (found_behind marks place count left).refusal ≡ Some error → found_behind marks place count left ≡ found_behind [] start count all → refusal_from count start all ≡ Some error
unfolding found_behind
refused marks place start count left all error h same = sym (ap (λ (f : Found). f.refusal) same) ∙ h
