-- Opening: the places in a file that the open components stand for.
use Rattle.std.proofs.Common.{◌≡◌, ◌==◌, ℕ, Bool, true, false, List, [], ◌∷◌, length, Option, None, is_some, refl, sym, ◌∙◌, ap, arith, eqb-true}
use Rattle.item_text.specs.Components.{Kind, Opens, Closes, Property, Blank, Place, Before, Within, Behind, next_place, holds_uid, uid_at}
use Rattle.item_text.specs.declared.item.ItemError.{ItemError}
use Rattle.item_text.specs.Refusals.{fault_at, fault_of_end, first_of}
use Rattle.item_text.specs.Places.{place_at}
use Rattle.item_text.proofs.Stacks.{named}
use Rattle.file_text.specs.Marks.{between, next_in_file, fault_in_file, role_at}
use Rattle.file_text.specs.Marks as file
use Rattle.file_text.specs.declared.marks.Role.{Role}

abbrev is_outside : List (List ℕ) → Bool
is_outside ns = length ns == 0

pub place_outside : (ns : List (List ℕ)) (begun : Bool) → is_outside ns ≡ true → between (place_at ns begun) ≡ Before
unfolding place_at between
place_outside [] false h = refl
place_outside [] true h = refl
place_outside (n ∷ ns) begun h = absurd (omega (arith, eqb-true (length (n ∷ ns)) 0 h))

pub between_is : (place : Place) → place ≡ Before → between place ≡ Before
unfolding between
between_is place h = ap between h

pub place_within : (ns : List (List ℕ)) (begun : Bool) → is_outside ns ≡ false → between (place_at ns begun) ≡ place_at ns begun
unfolding place_at between
place_within [] begun h = absurd (apart h)
  where
    apart : ◌≡◌ {A = Bool} true false → ⊥
    apart e = cc
place_within (n ∷ ns) begun h = refl

-- no UID is given between components
pub uid_between : (place : Place) (kind : Kind) → uid_at place kind ≡ uid_at (between place) kind
unfolding uid_at holds_uid between
uid_between Before kind = refl
uid_between Behind (Property name value) = refl
uid_between Behind (Opens name) = refl
uid_between Behind (Closes name) = refl
uid_between Behind Blank = refl
uid_between (Within names) kind = refl

pub fault_outside : (number : ℕ) (ns : List (List ℕ)) (begun : Bool) (kind : Kind) {result : Option ItemError} → is_outside ns ≡ true → result ≡ fault_in_file number Before kind → result ≡ fault_in_file number (between (place_at ns begun)) kind
fault_outside number ns begun kind h told = told ∙ ap (λ (p : Place). fault_in_file number p kind) (sym (place_outside ns begun h))

pub fault_within : (number : ℕ) (ns : List (List ℕ)) (begun : Bool) (kind : Kind) → is_outside ns ≡ false → fault_at number (place_at ns begun) kind ≡ fault_in_file number (between (place_at ns begun)) kind
unfolding place_at between fault_in_file
fault_within number [] begun kind h = absurd (apart h)
  where
    apart : ◌≡◌ {A = Bool} true false → ⊥
    apart e = cc
fault_within number (n ∷ ns) begun kind h = refl

pub end_outside : (count : ℕ) (ns : List (List ℕ)) (begun : Bool) → is_outside ns ≡ true → None ≡ file.fault_of_end count (between (place_at ns begun))
unfolding file.fault_of_end
end_outside count ns begun h = sym (ap (file.fault_of_end count) (place_outside ns begun h))

pub end_within : (count : ℕ) (ns : List (List ℕ)) (begun : Bool) → is_outside ns ≡ false → first_of (fault_of_end count (place_at ns begun)) ≡ file.fault_of_end count (between (place_at ns begun))
unfolding place_at between first_of fault_of_end file.fault_of_end
end_within count [] begun h = absurd (apart h)
  where
    apart : ◌≡◌ {A = Bool} true false → ⊥
    apart e = cc
end_within count (n ∷ ns) begun h = refl

no_fault_before : (number : ℕ) (kind : Kind) → fault_in_file number Before kind ≡ None → fault_at number Before kind ≡ None
unfolding fault_in_file fault_at
no_fault_before number (Opens name) h = h
no_fault_before number (Closes name) h = cc
no_fault_before number (Property name value) h = cc
no_fault_before number Blank h = h

-- a line that has no fault in a file has none where a component may open
pub no_fault : (number : ℕ) (place : Place) (kind : Kind) → fault_in_file number (between place) kind ≡ None → fault_at number (between place) kind ≡ None
unfolding between fault_in_file
no_fault number Before kind h = no_fault_before number kind h
no_fault number Behind kind h = no_fault_before number kind h
no_fault number (Within names) kind h = h

-- the place behind a line
pub went : (place start opened : Place) (kind : Kind) → place ≡ next_place start kind → start ≡ opened → between place ≡ next_in_file opened kind
unfolding next_in_file
went place start opened kind h e = ap between h ∙ ap (λ (p : Place). between (next_place p kind)) e

-- what a line is where the names are known
pub role_outside : (ns : List (List ℕ)) (begun : Bool) (kind : Kind) (role : Role) → ns ≡ [] → role ≡ role_at Before kind → role ≡ role_at (between (place_at ns begun)) kind
role_outside ns begun kind role h told = told ∙ ap (λ (p : Place). role_at p kind) (sym (place_outside ns begun (ap is_outside h)))

within_is : (ns : List (List ℕ)) (begun : Bool) (name : List ℕ) (outer : List (List ℕ)) → ns ≡ name ∷ outer → between (place_at ns begun) ≡ Within (name ∷ outer)
unfolding between
within_is ns begun name outer h = ap between (named ns begun name outer h)

pub role_direct : (ns : List (List ℕ)) (begun : Bool) (top : List ℕ) (kind : Kind) (role : Role) → ns ≡ top ∷ [] → role ≡ role_at (Within (top ∷ [])) kind → role ≡ role_at (between (place_at ns begun)) kind
role_direct ns begun top kind role h told = told ∙ ap (λ (p : Place). role_at p kind) (sym (within_is ns begun top [] h))

pub role_deep : (ns : List (List ℕ)) (begun : Bool) (name next : List ℕ) (outer : List (List ℕ)) (kind : Kind) (gives : Bool) (role : Role) → ns ≡ name ∷ next ∷ outer → gives ≡ is_some (uid_at (between (place_at ns begun)) kind)
    → ((kind : Kind) (name next : List ℕ) (outer : List (List ℕ)) → gives ≡ is_some (uid_at (Within (name ∷ next ∷ outer)) kind) → role ≡ role_at (Within (name ∷ next ∷ outer)) kind) → role ≡ role_at (between (place_at ns begun)) kind
role_deep ns begun name next outer kind gives role h k told =
    let at : between (place_at ns begun) ≡ Within (name ∷ next ∷ outer) = within_is ns begun name (next ∷ outer) h in
    told kind name next outer (k ∙ ap (λ (p : Place). is_some (uid_at p kind)) at) ∙ ap (λ (p : Place). role_at p kind) (sym at)
