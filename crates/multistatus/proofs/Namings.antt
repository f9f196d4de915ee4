-- Content taken with its names resolved on the way is content resolved first: lemmas on specs/Namespaces.antt and specs/Reader.antt
use Rattle.std.proofs.Common.{◌≡◌, refl, ℕ, ◌+◌, zero, suc, Bool, true, false, ◌&&◌, cond, ltb, List, ◌∷◌, ◌++◌, length, Option, Some, None, sym, ◌∙◌, ap, arith}
use borrow.Author.Tests.{lt-ltb, le-ltb}
use Rattle.multistatus.specs.declared.tags.Tag.{Tag}
use Rattle.multistatus.specs.declared.scopes.Binding.{Binding}
use Rattle.multistatus.specs.declared.frames.Frame.{Frame}
use Rattle.multistatus.specs.declared.reader.Level.{Level}
use Rattle.multistatus.specs.Steps.{◌>>=◌}
use Rattle.multistatus.specs.Elements.{Content, nothing, blanks, text, element, is_within}
use Rattle.multistatus.specs.Namespaces.{Opening, opening_of, Tree, end, chars, branch, resolved}
use Rattle.multistatus.specs.Documents.{most_nested}
use Rattle.multistatus.specs.Reader.{begun, noted, with_text, joined, scope_of, with_frame, level_of}
use Rattle.multistatus.proofs.Runs.{taken, opened_by, bind_same, bind_assoc}

-- what resolved content leaves in the frame of the element that holds it
abbrev pub read_tree : Tree → Frame → Option Frame
read_tree end frame = Some frame
read_tree (chars t more) frame = read_tree more (with_text frame t)
read_tree (branch name inside more) frame =
    read_tree inside (begun frame name) >>= λ child. joined (noted frame name) child >>= λ next. read_tree more next

-- content resolved, where no more than so many elements stand in one another
abbrev pub resolved_within : Content → ℕ → List Binding → Option Tree
resolved_within nothing n scope = Some end
resolved_within (blanks white more) n scope = resolved_within more n scope >>= λ rest. Some (chars white rest)
resolved_within (text t more) n scope = resolved_within more n scope >>= λ rest. Some (chars t rest)
resolved_within (element tag inside more) zero scope = None
resolved_within (element tag inside more) (suc n) scope =
    opening_of scope tag >>= λ o. resolved_within inside n (o.declared ++ scope) >>= λ within. resolved_within more (suc n) scope >>= λ rest. Some (branch o.name within rest)

pub bind_none : {A B : Type 0} (o : Option A) (f : A → Option B) → ((x : A) → f x ≡ None) → (o >>= f) ≡ None
bind_none None f h = refl
bind_none (Some x) f h = h x

bind_swap : {A B C : Type 0} (a : Option A) (b : Option B) (f : A → B → Option C) → (a >>= λ x. b >>= λ y. f x y) ≡ (b >>= λ y. a >>= λ x. f x y)
bind_swap None b f = sym (bind_none b (λ y. None >>= λ x. f x y) (λ y. refl))
bind_swap (Some x) b f = refl

pub if_bind : {A B : Type 0} (t : Bool) (o : Option A) (f : A → Option B) → (cond t o None >>= f) ≡ cond t (o >>= f) None
if_bind true o f = refl
if_bind false o f = refl

both_bind : {A B C D : Type 0} (s t : Bool) (o : Option A) (f : A → Option B) (g : Option C) (h : A → B → C → Option D)
    → (o >>= λ x. cond s (f x) None >>= λ y. cond t g None >>= λ z. h x y z) ≡ cond (s && t) (o >>= λ x. f x >>= λ y. g >>= λ z. h x y z) None
both_bind true true o f g h = refl
both_bind true false o f g h = bind_none o (λ x. f x >>= λ y. None >>= λ z. h x y z) (λ x. bind_none (f x) (λ y. None >>= λ z. h x y z) (λ y. refl))
both_bind false t o f g h = bind_none o (λ x. None >>= λ y. cond t g None >>= λ z. h x y z) (λ x. refl)

pub within-resolved : (c : Content) (n : ℕ) (scope : List Binding) → resolved_within c n scope ≡ cond (is_within n c) (resolved scope c) None
within-resolved nothing n scope = refl
within-resolved (blanks white more) n scope =
    ap (λ (o : Option Tree). o >>= λ rest. Some (chars white rest)) (within-resolved more n scope) ∙ if_bind (is_within n more) (resolved scope more) (λ rest. Some (chars white rest))
within-resolved (text t more) n scope =
    ap (λ (o : Option Tree). o >>= λ rest. Some (chars t rest)) (within-resolved more n scope) ∙ if_bind (is_within n more) (resolved scope more) (λ rest. Some (chars t rest))
within-resolved (element tag inside more) zero scope = refl
within-resolved (element tag inside more) (suc n) scope =
    bind_same (opening_of scope tag)
    (λ (o : Opening). resolved_within inside n (o.declared ++ scope) >>= λ within. resolved_within more (suc n) scope >>= λ rest. Some (branch o.name within rest))
    (λ (o : Opening). cond (is_within n inside) (resolved (o.declared ++ scope) inside) None >>= λ within. cond (is_within (suc n) more) (resolved scope more) None >>= λ rest. Some (branch o.name within rest))
    (λ o. ap (λ (r : Option Tree). r >>= λ within. resolved_within more (suc n) scope >>= λ rest. Some (branch o.name within rest)) (within-resolved inside n (o.declared ++ scope))
    ∙ ap (λ (r : Option Tree). cond (is_within n inside) (resolved (o.declared ++ scope) inside) None >>= λ within. r >>= λ rest. Some (branch o.name within rest)) (within-resolved more (suc n) scope))
    ∙ both_bind (is_within n inside) (is_within (suc n) more) (opening_of scope tag) (λ o. resolved (o.declared ++ scope) inside) (resolved scope more) (λ o within rest. Some (branch o.name within rest))

opened-room : (tag : Tag) (level : Level) (below : List Level) (t : Bool) → ltb (length (level ∷ below)) most_nested ≡ t
    → opened_by tag level below ≡ cond t (opening_of (scope_of (level ∷ below)) tag) None
opened-room tag level below t h = ap (λ b. cond b (opening_of (scope_of (level ∷ below)) tag) None) h

pub taken-resolved : (c : Content) (n : ℕ) (below : List Level) (level : Level) → length (level ∷ below) + n ≡ most_nested
    → taken c below level ≡ (resolved_within c n (scope_of (level ∷ below)) >>= λ tree. read_tree tree level.frame)
taken-resolved nothing n below level room = refl
taken-resolved (blanks white more) n below level room =
    taken-resolved more n below (with_frame level (with_text level.frame white)) room
    ∙ sym (bind_assoc (resolved_within more n (scope_of (level ∷ below))) (λ (rest : Tree). Some (chars white rest)) (λ tree. read_tree tree level.frame))
taken-resolved (text t more) n below level room =
    taken-resolved more n below (with_frame level (with_text level.frame t)) room
    ∙ sym (bind_assoc (resolved_within more n (scope_of (level ∷ below))) (λ (rest : Tree). Some (chars t rest)) (λ tree. read_tree tree level.frame))
taken-resolved (element tag inside more) zero below level room =
    ap (λ (o : Option Opening). o >>= λ o. taken inside (with_frame level (noted level.frame o.name) ∷ below) (level_of tag.name o (begun level.frame o.name)) >>= λ child.
    joined (noted level.frame o.name) child >>= λ frame. taken more below (with_frame level frame)) (opened-room tag level below false (le-ltb (length (level ∷ below)) most_nested (omega arith)))
taken-resolved (element tag inside more) (suc n) below level room =
    let scope : List Binding = scope_of (level ∷ below) in
    let outer : Opening → Level = λ o. with_frame level (noted level.frame o.name) in
    let inner : Opening → Level = λ o. level_of tag.name o (begun level.frame o.name) in
    let read : Opening → Tree → Option Frame = λ o within. read_tree within (begun level.frame o.name) in
    let join : Opening → Frame → Option Frame = λ o child. joined (noted level.frame o.name) child in
    let rest_of : Option Tree = resolved_within more (suc n) scope in
    let whole : Opening → Option Frame = λ o. taken inside (outer o ∷ below) (inner o) >>= λ child. join o child >>= λ frame. taken more below (with_frame level frame) in
    ap (λ (found : Option Opening). found >>= whole) (opened-room tag level below true (lt-ltb (length (level ∷ below)) most_nested (omega arith)))
    ∙ bind_same (opening_of scope tag) whole
    (λ (o : Opening). (resolved_within inside n (o.declared ++ scope) >>= λ within. rest_of >>= λ rest. Some (branch o.name within rest)) >>= λ tree. read_tree tree level.frame)
    (λ o. ap (λ (t : Option Frame). t >>= λ child. join o child >>= λ frame. taken more below (with_frame level frame)) (taken-resolved inside n (outer o ∷ below) (inner o) (omega arith))
    ∙ bind_assoc (resolved_within inside n (o.declared ++ scope)) (read o) (λ child. join o child >>= λ frame. taken more below (with_frame level frame))
    ∙ bind_same (resolved_within inside n (o.declared ++ scope))
    (λ (within : Tree). read o within >>= λ child. join o child >>= λ frame. taken more below (with_frame level frame))
    (λ (within : Tree). (rest_of >>= λ rest. Some (branch o.name within rest)) >>= λ tree. read_tree tree level.frame)
    (λ within. bind_same (read o within) (λ child. join o child >>= λ frame. taken more below (with_frame level frame)) (λ child. join o child >>= λ frame. rest_of >>= λ rest. read_tree rest frame)
    (λ child. bind_same (join o child) (λ frame. taken more below (with_frame level frame)) (λ frame. rest_of >>= λ rest. read_tree rest frame)
    (λ frame. taken-resolved more (suc n) below (with_frame level frame) room))
    ∙ sym (bind_assoc (read o within) (join o) (λ frame. rest_of >>= λ rest. read_tree rest frame))
    ∙ bind_swap (read o within >>= join o) rest_of (λ frame rest. read_tree rest frame)
    ∙ bind_same rest_of (λ rest. (read o within >>= join o) >>= λ frame. read_tree rest frame) (λ rest. read_tree (branch o.name within rest) level.frame)
    (λ rest. bind_assoc (read o within) (join o) (λ frame. read_tree rest frame))
    ∙ sym (bind_assoc rest_of (λ (rest : Tree). Some (branch o.name within rest)) (λ tree. read_tree tree level.frame)))
    ∙ sym (bind_assoc (resolved_within inside n (o.declared ++ scope)) (λ (within : Tree). rest_of >>= λ rest. Some (branch o.name within rest)) (λ tree. read_tree tree level.frame)))
    ∙ sym (bind_assoc (opening_of scope tag) (λ (o : Opening). resolved_within inside n (o.declared ++ scope) >>= λ within. rest_of >>= λ rest. Some (branch o.name within rest)) (λ tree. read_tree tree level.frame))
