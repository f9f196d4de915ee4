use Rattle.std.proofs.Common.{◌∙◌, ap, sym, ℕ, Option, Some, None, Bool, cond, List, [], ◌∷◌, ◌++◌, map, Bor}
use Rattle.std.specs.Option.{option_to_list, option_map}
use Rattle.item_text.specs.NormalForm.{keeps, written_as}
use Rattle.item_text.specs.Refusals.{else_of, mark_or, Mark, begins_child}
use Rattle.item_text.specs.Kinds.{kind_seen}
use Rattle.item_text.specs.Places.{place_seen, names_of}
use Rattle.item_text.specs.Walks.{children_seen}
use Rattle.item_text.proofs.Steps.{step, open_is}
use Rattle.item_text.proofs.walk.Walk.go.Goals as goal

pub returns-clause-goes : goal.returns-clause-goes
returns-clause-goes c =
    step (record {
      text_is = c.trimmed-text.ensures;
      kind_is = c.kind_of-kind.ensures;
      fine = sym c.fault.ensures ∙ c.in_default.is;
      next_is = c.in-Ok-go.ensures.place;
      uid_is = c.first-self.ensures ∙ ap (else_of _) c.uid-uid.ensures;
      calendar_is = c.first_number-self.ensures ∙ ap (λ (b : Bool). else_of c.args.self.now.calendar (cond b (Some c.args.line.number) None)) c.opens_calendar.ensures;
      children_are = λ r.
          c.in-Ok-note.ensures r
          ∙ (ap (λ (m : Option Mark). children_seen c.args.self.now.children (option_to_list (mark_or m (option_map (λ (x : Bor (List ℕ)). x.now) c.uid-uid.result)) ++ r)) (sym (c.begins_child-begins.ensures c.args.line.number))
          ∙ ap (λ (u : Option (List ℕ)). children_seen c.args.self.now.children (option_to_list (mark_or (begins_child c.args.line.number (place_seen c.args.self.now.stack) (kind_seen c.kind_of-kind.result)) u) ++ r)) c.uid-uid.ensures);
      kept_is =
          c.in-Ok.ensures
          ∙ ap (λ (b : Bool). map (λ (x : Bor (List ℕ)). x.now) c.args.self.now.kept.items ++ cond b (written_as c.trimmed-text.result.now (kind_seen c.kind_of-kind.result) ∷ []) [])
          (c.keeps-stays.ensures ∙ ap (λ (ns : List (List ℕ)). keeps ns (kind_seen c.kind_of-kind.result)) (sym (open_is (names_of c.args.self.now.stack) c.args.self.now.stack.begun)));
    })
