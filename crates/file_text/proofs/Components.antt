-- Components: the parts of a component whose lines have no fault, and lines that are cut into parts again.
use Rattle.std.proofs.Common.{◌≡◌, ℕ, Bool, true, false, cond, List, [], ◌∷◌, ◌++◌, None, is_some, refl, sym, ◌∙◌, ap, subst, append_assoc}
use Rattle.std.specs.List.{All, onto_first}
use Rattle.std.proofs.lemmas.List.Elements.{All-nil, All-cons, All-head, All-tail}
use Rattle.item_text.specs.Components.{Kind, Opens, Closes, Property, Blank, kind_of, Place, Before, Within, Behind, outside_of, next_place, uid_at, is_timezone}
use Rattle.item_text.specs.Refusals.{fault_at}
use Rattle.file_text.specs.Marks.{role_at}
use Rattle.file_text.specs.Parts.{begins, cut}
use Rattle.file_text.specs.declared.marks.Mark.{Mark}
use Rattle.file_text.specs.declared.marks.Role.TheVariants as role
use Rattle.file_text.specs.declared.parts.Level.{Level}
use Rattle.file_text.specs.declared.parts.Level.TheVariants as level
use Rattle.file_text.proofs.Runs.{concat, IsAt, IsRun}

-- marks of which none begins a part
abbrev pub AreInner : Level → List Mark → Type 0
AreInner at marks = All (λ (mark : Mark). begins at mark.role ≡ false) marks

-- lines that are cut before the first and nowhere else
pub record IsSegment (at : Level) (segment : List Mark) : Type 0 where
  pub head : Mark
  pub rest : List Mark
  pub is : segment ≡ head ∷ rest
  pub first : begins at head.role ≡ true
  pub inner : AreInner at rest

abbrev Begins : Level → List Mark → Type 0
Begins at [] = Unit {0}
Begins at (mark ∷ rest) = begins at mark.role ≡ true

concat_begins : (at : Level) (segments : List (List Mark)) → All (IsSegment at) segments → Begins at (concat segments)
concat_begins at [] are = tt
concat_begins at (segment ∷ more) are =
    let first : IsSegment at segment = All-head (IsSegment at) segment more are in
    subst (λ (ms : List Mark). Begins at (ms ++ concat more)) (sym first.is) first.first

cut_first : (at : Level) (line : Mark) (rest more : List Mark) → AreInner at rest → Begins at more → cut at (line ∷ rest ++ more) ≡ (line ∷ rest) ∷ cut at more
unfolding cut
cut_first at line [] [] inner begins_more = refl
cut_first at line [] (next ∷ more) inner begins_more =
    ap (λ (b : Bool). cond b ((line ∷ []) ∷ cut at (next ∷ more)) (onto_first line (cut at (next ∷ more)))) begins_more
cut_first at line (x ∷ rest) more inner begins_more =
    let P : Mark → Type 0 = λ mark. begins at mark.role ≡ false in
    ap (λ (b : Bool). cond b ((line ∷ []) ∷ cut at (x ∷ rest ++ more)) (onto_first line (cut at (x ∷ rest ++ more)))) (All-head P x rest inner)
    ∙ ap (onto_first line) (cut_first at x rest more (All-tail P x rest inner) begins_more)

-- segments are cut as they are
pub cut_segments : (at : Level) (segments : List (List Mark)) → All (IsSegment at) segments → cut at (concat segments) ≡ segments
unfolding cut
cut_segments at [] are = refl
cut_segments at (segment ∷ more) are =
    let first : IsSegment at segment = All-head (IsSegment at) segment more are in
    let later : All (IsSegment at) more = All-tail (IsSegment at) segment more are in
    ap (λ (ms : List Mark). cut at (ms ++ concat more)) first.is
    ∙ (cut_first at first.head first.rest (concat more) first.inner (concat_begins at more later)
    ∙ (ap (λ (ms : List Mark). ms ∷ cut at (concat more)) (sym first.is) ∙ ap (λ (ss : List (List Mark)). segment ∷ ss) (cut_segments at more later)))

-- what a line is directly in a component, and deeper
direct_by : (b : Bool) → begins level.Component (cond b role.Zone role.Child) ≡ true
unfolding begins
direct_by true = refl
direct_by false = refl

pub direct_role : (top : List ℕ) (kind : Kind) → begins level.Component (role_at (Within (top ∷ [])) kind) ≡ true
unfolding role_at begins
direct_role top (Opens name) = direct_by (is_timezone name)
direct_role top (Closes name) = refl
direct_role top (Property name value) = refl
direct_role top Blank = refl

deep_by : (b : Bool) → begins level.Component (cond b role.Uid role.Deep) ≡ false
unfolding begins
deep_by true = refl
deep_by false = refl

deep_role : (name top : List ℕ) (names : List (List ℕ)) (kind : Kind) → begins level.Component (role_at (Within (name ∷ names ++ top ∷ [])) kind) ≡ false
unfolding role_at
deep_role name top [] kind = deep_by (is_some (uid_at (Within (name ∷ top ∷ [])) kind))
deep_role name top (next ∷ names) kind = deep_by (is_some (uid_at (Within (name ∷ next ∷ names ++ top ∷ [])) kind))

abbrev pub Directly : List ℕ → Place
Directly top = Within (top ∷ [])

false_true : false ≡ true → ⊥
false_true h = apart h
  where
    apart : ◌≡◌ {A = Bool} false true → ⊥
    apart e = cc

-- no line that stands directly in a component is deep
pub none_deep : (top : List ℕ) (marks : List Mark) (end : Place) → IsRun (Directly top) marks end → AreInner level.Component marks → marks ≡ []
none_deep top [] end run inner = refl
none_deep top (mark ∷ rest) end run inner =
    absurd (false_true (sym (All-head (λ (mark : Mark). begins level.Component mark.role ≡ false) mark rest inner) ∙ (ap (begins level.Component) run.0.role ∙ direct_role top (kind_of mark.text))))

-- a part of a component: a line that stands directly in it, and the deeper lines behind it
pub record IsPart (top : List ℕ) (part : List Mark) : Type 0 where
  pub head : Mark
  pub rest : List Mark
  pub is : part ≡ head ∷ rest
  pub at : IsAt (Directly top) head
  pub run : IsRun (next_place (Directly top) (kind_of head.text)) rest (Directly top)
  pub inner : AreInner level.Component rest

pub part_run : (top : List ℕ) (part : List Mark) → IsPart top part → IsRun (Directly top) part (Directly top)
part_run top part p = subst (λ (ms : List Mark). IsRun (Directly top) ms (Directly top)) (sym p.is) (p.at, p.run)

pub part_segment : (top : List ℕ) (part : List Mark) → IsPart top part → IsSegment level.Component part
part_segment top part p = record { head = p.head; rest = p.rest; is = p.is; first = ap (begins level.Component) p.at.role ∙ direct_role top (kind_of p.head.text); inner = p.inner }

-- the rest of a component: deep lines, its parts, and its end
record IsRest (top : List ℕ) (start : Place) (marks : List Mark) : Type 0 where
  deep : List Mark
  parts : List (List Mark)
  last : Mark
  are : marks ≡ deep ++ (concat parts ++ last ∷ [])
  run : IsRun start deep (Directly top)
  inner : AreInner level.Component deep
  each : All (IsPart top) parts
  end : IsAt (Directly top) last
  closes : (name : List ℕ) × (kind_of last.text ≡ Closes name)

pub nothing_behind : (rest : List Mark) → IsRun Behind rest Behind → rest ≡ []
unfolding fault_at
nothing_behind [] run = refl
nothing_behind (mark ∷ rest) run = absurd (by (kind_of mark.text) run.0.some (run.0.fine 0))
  where
    by : (kind : Kind) → (kind ≡ Blank → ⊥) → fault_at 0 Behind kind ≡ None → ⊥
    by (Opens name) some fine = cc
    by (Closes name) some fine = cc
    by (Property name value) some fine = cc
    by Blank some fine = some refl

module _ (top : List ℕ) (mark : Mark) (rest : List Mark) (again : (names : List (List ℕ)) → IsRun (Within (names ++ top ∷ [])) rest Behind → IsRest top (Within (names ++ top ∷ [])) rest) where
  -- a part begins
  begun : (start : Place) → IsAt (Directly top) mark → next_place (Directly top) (kind_of mark.text) ≡ start → IsRest top start rest → IsRest top (Directly top) (mark ∷ rest)
  begun start at next more = record {
    deep = [];
    parts = (mark ∷ more.deep) ∷ more.parts;
    last = more.last;
    are = ap (λ (ms : List Mark). mark ∷ ms) (more.are ∙ sym (append_assoc more.deep (concat more.parts) (more.last ∷ [])));
    run = refl;
    inner = All-nil (λ (mark : Mark). begins level.Component mark.role ≡ false);
    each = All-cons (IsPart top) (mark ∷ more.deep) more.parts
        (record { head = mark; rest = more.deep; is = refl; at = at; run = subst (λ (p : Place). IsRun p more.deep (Directly top)) (sym next) more.run; inner = more.inner }) more.each;
    end = more.end;
    closes = more.closes;
  }

  -- the component ends
  ended : (name : List ℕ) → IsAt (Directly top) mark → kind_of mark.text ≡ Closes name → rest ≡ [] → IsRest top (Directly top) (mark ∷ rest)
  ended name at is none = record {
    deep = [];
    parts = [];
    last = mark;
    are = ap (λ (ms : List Mark). mark ∷ ms) none;
    run = refl;
    inner = All-nil (λ (mark : Mark). begins level.Component mark.role ≡ false);
    each = All-nil (IsPart top);
    end = at;
    closes = (name, is);
  }

  direct : (kind : Kind) → kind_of mark.text ≡ kind → IsAt (Directly top) mark → IsRun (next_place (Directly top) kind) rest Behind → IsRest top (Directly top) (mark ∷ rest)
  unfolding next_place outside_of
  direct (Opens name) is at run = begun (Within (name ∷ top ∷ [])) at (ap (next_place (Directly top)) is) (again (name ∷ []) run)
  direct (Closes name) is at run = ended name at is (nothing_behind rest run)
  direct (Property name value) is at run = begun (Directly top) at (ap (next_place (Directly top)) is) (again [] run)
  direct Blank is at run = absurd (at.some is)

  -- a deep line
  deeper : (start next : Place) → IsAt start mark → begins level.Component mark.role ≡ false → next_place start (kind_of mark.text) ≡ next → IsRest top next rest → IsRest top start (mark ∷ rest)
  deeper start next at inner is more = record {
    deep = mark ∷ more.deep;
    parts = more.parts;
    last = more.last;
    are = ap (λ (ms : List Mark). mark ∷ ms) more.are;
    run = (at, subst (λ (p : Place). IsRun p more.deep (Directly top)) (sym is) more.run);
    inner = All-cons (λ (mark : Mark). begins level.Component mark.role ≡ false) mark more.deep inner more.inner;
    each = more.each;
    end = more.end;
    closes = more.closes;
  }

  deep_at : (name : List ℕ) (names : List (List ℕ)) → IsAt (Within (name ∷ names ++ top ∷ [])) mark → begins level.Component mark.role ≡ false
  deep_at name names at = ap (begins level.Component) at.role ∙ deep_role name top names (kind_of mark.text)

  left : (name : List ℕ) (names : List (List ℕ)) → outside_of (name ∷ names ++ top ∷ []) ≡ Within (names ++ top ∷ [])
  unfolding outside_of
  left name [] = refl
  left name (next ∷ names) = refl

  inside_by : (name : List ℕ) (names : List (List ℕ)) (kind : Kind) → kind_of mark.text ≡ kind → IsAt (Within (name ∷ names ++ top ∷ [])) mark → IsRun (next_place (Within (name ∷ names ++ top ∷ [])) kind) rest Behind
      → IsRest top (Within (name ∷ names ++ top ∷ [])) (mark ∷ rest)
  unfolding next_place
  inside_by name names (Opens new) is at run =
      deeper (Within (name ∷ names ++ top ∷ [])) (Within (new ∷ name ∷ names ++ top ∷ [])) at (deep_at name names at) (ap (next_place (Within (name ∷ names ++ top ∷ []))) is) (again (new ∷ name ∷ names) run)
  inside_by name names (Closes old) is at run =
      deeper (Within (name ∷ names ++ top ∷ [])) (Within (names ++ top ∷ [])) at (deep_at name names at) (ap (next_place (Within (name ∷ names ++ top ∷ []))) is ∙ left name names)
      (again names (subst (λ (p : Place). IsRun p rest Behind) (left name names) run))
  inside_by name names (Property key value) is at run =
      deeper (Within (name ∷ names ++ top ∷ [])) (Within (name ∷ names ++ top ∷ [])) at (deep_at name names at) (ap (next_place (Within (name ∷ names ++ top ∷ []))) is) (again (name ∷ names) run)
  inside_by name names Blank is at run = absurd (at.some is)

rest_of : (top : List ℕ) (names : List (List ℕ)) (marks : List Mark) → IsRun (Within (names ++ top ∷ [])) marks Behind → IsRest top (Within (names ++ top ∷ [])) marks
rest_of top names [] run = absurd (cc)
rest_of top [] (mark ∷ rest) run = direct top mark rest (λ more r. rest_of top more rest r) (kind_of mark.text) refl run.0 run.1
rest_of top (name ∷ names) (mark ∷ rest) run = inside_by top mark rest (λ more r. rest_of top more rest r) name names (kind_of mark.text) refl run.0 run.1

-- a component: its opening line, its parts, and its closing line
pub record IsComponent (marks : List Mark) : Type 0 where
  pub top : List ℕ
  pub head : Mark
  pub parts : List (List Mark)
  pub last : Mark
  pub are : marks ≡ head ∷ (concat parts ++ last ∷ [])
  pub begin : IsAt Before head
  pub opens : kind_of head.text ≡ Opens top
  pub each : All (IsPart top) parts
  pub end : IsAt (Directly top) last
  pub closes : (name : List ℕ) × (kind_of last.text ≡ Closes name)

pub opened : (kind : Kind) → (kind ≡ Blank → ⊥) → fault_at 0 Before kind ≡ None → (name : List ℕ) × (kind ≡ Opens name)
unfolding fault_at
opened (Opens name) some fine = (name, refl)
opened (Closes name) some fine = cc
opened (Property name value) some fine = cc
opened Blank some fine = absurd (some refl)

pub component_of : (marks : List Mark) → IsRun Before marks Behind → IsComponent marks
unfolding next_place
component_of [] run = absurd (cc)
component_of (mark ∷ rest) run =
    let name = opened (kind_of mark.text) run.0.some (run.0.fine 0) in
    let inside : IsRun (Directly name.0) rest Behind = subst (λ (k : Kind). IsRun (next_place Before k) rest Behind) name.1 run.1 in
    let more : IsRest name.0 (Directly name.0) rest = rest_of name.0 [] rest inside in
    record {
      top = name.0;
      head = mark;
      parts = more.parts;
      last = more.last;
      are = ap (λ (ms : List Mark). mark ∷ ms) (more.are ∙ ap (λ (ms : List Mark). ms ++ (concat more.parts ++ more.last ∷ [])) (none_deep name.0 more.deep (Directly name.0) more.run more.inner));
      begin = run.0;
      opens = name.1;
      each = more.each;
      end = more.end;
      closes = more.closes;
    }
