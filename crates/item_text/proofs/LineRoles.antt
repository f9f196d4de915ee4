-- LineRoles: what the roles of lines mean, and the marks that lines of a role give.
use Rattle.std.proofs.Common.{◌≡◌, ◌⊎◌, inl, inr, ℕ, Bool, true, false, cond, not, ◌&&◌, List, [], ◌∷◌, Option, Some, None, is_some, refl, ◌∙◌, ap}
use Rattle.std.specs.Option.{option_map}
use Rattle.std.proofs.lemmas.Bool.{false≢true}
use Rattle.item_text.specs.Components.{Kind, Opens, Closes, Property, Blank, Place, Before, Within, Behind, Placed, next_place, is_calendar, is_timezone, holds_uid, uid_at, uid_of}
use Rattle.item_text.specs.Refusals.{opens_calendar, Mark, Begins, Uid, begins_child, mark_or, mark_of}
use Rattle.item_text.specs.declared.edit.Role.{Role}
use Rattle.item_text.specs.declared.edit.Role.TheVariants.{Opener, Giver, Other}
use Rattle.item_text.specs.Edits.{opens_holder, role_at, role_of}

-- two lines of one kind at one place
pub record Alike (x y : Placed) : Type 0 where
  pub same_place : y.place ≡ x.place
  pub same_kind : y.kind ≡ x.kind

-- a line that gives this UID
pub record Told (uid : List ℕ) (y : Placed) : Type 0 where
  pub gives : uid_of y ≡ Some uid
  pub closed : opens_holder y.place y.kind ≡ false
  pub no_calendar : opens_calendar y ≡ false

-- whether a component that holds a UID opens before the first UID
unfoldable pub opens_first : List Role → Bool
opens_first [] = false
opens_first (Opener ∷ rest) = true
opens_first (Giver ∷ rest) = false
opens_first (Other ∷ rest) = opens_first rest

-- What the roles of lines mean.

other_by : (opens : Bool) (o : Option (List ℕ)) → cond opens Opener (cond (is_some o) Giver Other) ≡ Other → (opens ≡ false) × (o ≡ None)
other_by true o h = absurd (let clash : Opener ≡ Other = h in cc)
other_by false None h = (refl, refl)
other_by false (Some u) h = absurd (let clash : Giver ≡ Other = h in cc)

giver_by : (opens : Bool) (o : Option (List ℕ)) → cond opens Opener (cond (is_some o) Giver Other) ≡ Giver → (opens ≡ false) × ((u : List ℕ) × (o ≡ Some u))
giver_by true o h = absurd (let clash : Opener ≡ Giver = h in cc)
giver_by false None h = absurd (let clash : Other ≡ Giver = h in cc)
giver_by false (Some u) h = (refl, (u, refl))

opener_by : (opens : Bool) (o : Option (List ℕ)) → cond opens Opener (cond (is_some o) Giver Other) ≡ Opener → opens ≡ true
opener_by true o h = refl
opener_by false None h = absurd (let clash : Other ≡ Opener = h in cc)
opener_by false (Some u) h = absurd (let clash : Giver ≡ Opener = h in cc)

pub other_is : (x : Placed) → role_of x ≡ Other → (opens_holder x.place x.kind ≡ false) × (uid_of x ≡ None)
unfolding role_of role_at uid_of
other_is x h = other_by (opens_holder x.place x.kind) (uid_at x.place x.kind) h

pub giver_is : (x : Placed) → role_of x ≡ Giver → (opens_holder x.place x.kind ≡ false) × ((u : List ℕ) × (uid_of x ≡ Some u))
unfolding role_of role_at uid_of
giver_is x h = giver_by (opens_holder x.place x.kind) (uid_at x.place x.kind) h

pub opener_is : (x : Placed) → role_of x ≡ Opener → opens_holder x.place x.kind ≡ true
unfolding role_of role_at
opener_is x h = opener_by (opens_holder x.place x.kind) (uid_at x.place x.kind) h

pub same_role : (x y : Placed) (role : Role) → role_of x ≡ role → Alike x y → role_of y ≡ role
unfolding role_of
same_role x y role h alike = ap (λ (p : Place). role_at p y.kind) alike.same_place ∙ (ap (role_at x.place) alike.same_kind ∙ h)

opening_gives_none : (place : Place) (kind : Kind) → opens_holder place kind ≡ true → uid_at place kind ≡ None
unfolding opens_holder uid_at
opening_gives_none place (Opens name) h = refl
opening_gives_none place (Closes name) h = absurd (false≢true h)
opening_gives_none place (Property name value) h = absurd (false≢true h)
opening_gives_none place Blank h = absurd (false≢true h)

pub opener_gives_none : (x : Placed) → role_of x ≡ Opener → uid_of x ≡ None
unfolding uid_of
opener_gives_none x h = opening_gives_none x.place x.kind (opener_is x h)

-- a line that begins a child opens a component that holds a UID
no_child : (number : ℕ) (place : Place) (kind : Kind) → opens_holder place kind ≡ false → begins_child number place kind ≡ None
unfolding opens_holder begins_child next_place holds_uid
no_child number Before kind h = refl
no_child number Behind kind h = refl
no_child number (Within []) kind h = refl
no_child number (Within (top ∷ [])) (Opens name) h = ap (λ b. cond b (Some (Begins number)) None) h
no_child number (Within (top ∷ [])) (Closes name) h = refl
no_child number (Within (top ∷ [])) (Property name value) h = refl
no_child number (Within (top ∷ [])) Blank h = refl
no_child number (Within (child ∷ top ∷ outer)) kind h = refl

mark_by : (x : Placed) (o : Option (List ℕ)) → opens_holder x.place x.kind ≡ false → uid_of x ≡ o → mark_of x ≡ option_map Uid o
unfolding mark_of mark_or
mark_by x o h k = ap (λ (m : Option Mark). mark_or m (uid_of x)) (no_child x.number x.place x.kind h) ∙ ap (option_map Uid) k

pub other_mark : (x : Placed) → role_of x ≡ Other → mark_of x ≡ None
other_mark x h = mark_by x None (other_is x h).0 (other_is x h).1

pub giver_mark : (x : Placed) → role_of x ≡ Giver → (u : List ℕ) × (mark_of x ≡ Some (Uid u))
giver_mark x h = ((giver_is x h).1.0, mark_by x (Some (giver_is x h).1.0) (giver_is x h).0 (giver_is x h).1.1)

pub told_mark : (uid : List ℕ) (y : Placed) → Told uid y → mark_of y ≡ Some (Uid uid)
told_mark uid y told = mark_by y (Some uid) told.closed told.gives

-- the marks of two lines that open a component: both begin a child, or none does
pub record BothBegin (m n : Option Mark) (x y : ℕ) : Type 0 where
  pub first : m ≡ Some (Begins x)
  pub second : n ≡ Some (Begins y)

pub record NoneBegins (m n : Option Mark) : Type 0 where
  pub first : m ≡ None
  pub second : n ≡ None

begun_by : (b : Bool) (x y : ℕ) → NoneBegins (cond b (Some (Begins x)) None) (cond b (Some (Begins y)) None) ⊎ BothBegin (cond b (Some (Begins x)) None) (cond b (Some (Begins y)) None) x y
begun_by true x y = inr (record { first = refl; second = refl })
begun_by false x y = inl (record { first = refl; second = refl })

begun : (x y : ℕ) (place : Place) (kind : Kind) → NoneBegins (begins_child x place kind) (begins_child y place kind) ⊎ BothBegin (begins_child x place kind) (begins_child y place kind) x y
unfolding begins_child
begun x y Before kind = inl (record { first = refl; second = refl })
begun x y Behind kind = inl (record { first = refl; second = refl })
begun x y (Within []) kind = inl (record { first = refl; second = refl })
begun x y (Within (top ∷ [])) (Opens name) = begun_by (is_calendar top && not (is_timezone name)) x y
begun x y (Within (top ∷ [])) (Closes name) = inl (record { first = refl; second = refl })
begun x y (Within (top ∷ [])) (Property name value) = inl (record { first = refl; second = refl })
begun x y (Within (top ∷ [])) Blank = inl (record { first = refl; second = refl })
begun x y (Within (child ∷ top ∷ outer)) kind = inl (record { first = refl; second = refl })

mark_alone : (m : Option Mark) → mark_or m None ≡ m
unfolding mark_or
mark_alone None = refl
mark_alone (Some m) = refl

opener_mark : (x : Placed) → role_of x ≡ Opener → mark_of x ≡ begins_child x.number x.place x.kind
unfolding mark_of
opener_mark x h = ap (mark_or (begins_child x.number x.place x.kind)) (opener_gives_none x h) ∙ mark_alone (begins_child x.number x.place x.kind)

begun_marks : (m n a b : Option Mark) (x y : ℕ) → m ≡ a → n ≡ b → NoneBegins a b ⊎ BothBegin a b x y → NoneBegins m n ⊎ BothBegin m n x y
begun_marks m n a b x y h k (inl none) = inl (record { first = h ∙ none.first; second = k ∙ none.second })
begun_marks m n a b x y h k (inr both) = inr (record { first = h ∙ both.first; second = k ∙ both.second })

pub opener_marks : (x y : Placed) → role_of x ≡ Opener → Alike x y → NoneBegins (mark_of x) (mark_of y) ⊎ BothBegin (mark_of x) (mark_of y) x.number y.number
opener_marks x y h alike =
    begun_marks (mark_of x) (mark_of y) (begins_child x.number x.place x.kind) (begins_child y.number x.place x.kind) x.number y.number (opener_mark x h)
    (opener_mark y (same_role x y Opener h alike) ∙ (ap (λ (p : Place). begins_child y.number p y.kind) alike.same_place ∙ ap (begins_child y.number x.place) alike.same_kind))
    (begun x.number y.number x.place x.kind)
