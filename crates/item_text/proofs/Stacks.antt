-- Stacks of open components, and the places that they stand for.
use Rattle.std.proofs.Common.{◌≡◌, ℕ, ◌+◌, ◌-◌, ◌<◌, Bool, true, false, cond, ◌||◌, List, [], ◌∷◌, ◌++◌, map, reverse, length, take, get_or, Option, Some, None, Bor, refl, sym, ◌∙◌, ap, arith, nat_lt, count_by, zero-add}
use Rattle.std.specs.List.{list_any}
use Rattle.std.proofs.lemmas.List.{map-append, reverse-append, take_more, take_all, length-take-le}
use Rattle.std.proofs.lemmas.List.Sums.{sum_by-cons}
use Rattle.std.proofs.lemmas.Bool.Decides.{nat_tests}
use Rattle.item_text.specs.Components.{upper, is_timezone, Kind, Opens, Closes, Property, Blank, Place, Before, Within, Behind, outside_of, next_place, uid_at}
use Rattle.item_text.specs.declared.item.ItemError.{ItemError}
use Rattle.item_text.specs.Refusals.{begins_child, fault_at}
use Rattle.item_text.specs.Places.{place_at}

abbrev pub names : List (Bor (List ℕ)) → List (List ℕ)
names xs = reverse (map (λ (x : Bor (List ℕ)). upper x.now) xs)

pub names_push : (xs : List (Bor (List ℕ))) (x : Bor (List ℕ)) → names (xs ++ (x ∷ [])) ≡ upper x.now ∷ names xs
names_push xs x =
    ap reverse (map-append (λ (x : Bor (List ℕ)). upper x.now) xs (x ∷ []))
    ∙ reverse-append (map (λ (x : Bor (List ℕ)). upper x.now) xs) (upper x.now ∷ [])

last_of : (xs : List (Bor (List ℕ))) (d : Bor (List ℕ)) → 0 < length xs → xs ≡ take (length xs - 1) xs ++ (get_or xs (length xs - 1) d ∷ [])
last_of xs d h =
    let below : length xs - 1 < length xs = omega arith in
    let same : (length xs - 1) + 1 ≡ length xs = omega arith in
    sym (take_all (length xs) xs (omega arith)) ∙ (ap (λ (m : ℕ). take m xs) (sym same) ∙ take_more xs (length xs - 1) d below)

pub names_last : (xs : List (Bor (List ℕ))) (d : Bor (List ℕ)) → 0 < length xs → names xs ≡ upper (get_or xs (length xs - 1) d).now ∷ names (take (length xs - 1) xs)
names_last xs d h = ap names (last_of xs d h) ∙ names_push (take (length xs - 1) xs) (get_or xs (length xs - 1) d)

pub names_deep : (xs : List (Bor (List ℕ))) (d : Bor (List ℕ)) → 2 < length xs
    → (second third : List ℕ) × (outer : List (List ℕ)) × (names xs ≡ upper (get_or xs (length xs - 1) d).now ∷ second ∷ third ∷ outer)
names_deep xs d h =
    let ys = take (length xs - 1) xs in
    let n : length ys ≡ length xs - 1 = length-take-le (length xs - 1) xs (omega arith) in
    let zs = take (length ys - 1) ys in
    let m : length zs ≡ length ys - 1 = length-take-le (length ys - 1) ys (omega arith) in (
      upper (get_or ys (length ys - 1) d).now,
      upper (get_or zs (length zs - 1) d).now,
      names (take (length zs - 1) zs),
      names_last xs d (omega arith) ∙ (ap (λ (ns : List (List ℕ)). upper (get_or xs (length xs - 1) d).now ∷ ns) (names_last ys d (omega arith))
          ∙ ap (λ (ns : List (List ℕ)). upper (get_or xs (length xs - 1) d).now ∷ upper (get_or ys (length ys - 1) d).now ∷ ns) (names_last zs d (omega arith))),
    )

-- a count is above none just where one of the names is counted
some_zone : (b : Bool) (xs : List (List ℕ)) → nat_lt 0 (count_by is_timezone xs) ≡ list_any is_timezone xs → nat_lt 0 (cond b 1 0 + count_by is_timezone xs) ≡ (b || list_any is_timezone xs)
some_zone true xs h = more (count_by is_timezone xs)
  where
    more : (n : ℕ) → nat_lt 0 (1 + n) ≡ true
    more n = grind (arith, nat_tests)
some_zone false xs h = ap (λ (n : ℕ). nat_lt 0 n) (zero-add (count_by is_timezone xs)) ∙ h

pub zones_told : (xs : List (List ℕ)) → nat_lt 0 (count_by is_timezone xs) ≡ list_any is_timezone xs
zones_told [] = refl
zones_told (x ∷ xs) = ap (λ (n : ℕ). nat_lt 0 n) (sum_by-cons (λ x. cond (is_timezone x) 1 0) x xs) ∙ some_zone (is_timezone x) xs (zones_told xs)

pub begins_no_closes : (number : ℕ) (place : Place) (name : List ℕ) → begins_child number place (Closes name) ≡ None
unfolding begins_child
begins_no_closes number Before name = refl
begins_no_closes number Behind name = refl
begins_no_closes number (Within []) name = refl
begins_no_closes number (Within (a ∷ [])) name = refl
begins_no_closes number (Within (a ∷ b ∷ more)) name = refl

pub begins_no_property : (number : ℕ) (place : Place) (name value : List ℕ) → begins_child number place (Property name value) ≡ None
unfolding begins_child
begins_no_property number Before name value = refl
begins_no_property number Behind name value = refl
begins_no_property number (Within []) name value = refl
begins_no_property number (Within (a ∷ [])) name value = refl
begins_no_property number (Within (a ∷ b ∷ more)) name value = refl

pub begins_no_blank : (number : ℕ) (place : Place) → begins_child number place Blank ≡ None
unfolding begins_child
begins_no_blank number Before = refl
begins_no_blank number Behind = refl
begins_no_blank number (Within []) = refl
begins_no_blank number (Within (a ∷ [])) = refl
begins_no_blank number (Within (a ∷ b ∷ more)) = refl

pub entered : (xs ys : List (Bor (List ℕ))) (x : Bor (List ℕ)) → ys ≡ xs ++ (x ∷ []) → place_at (names ys) true ≡ Within (upper x.now ∷ names xs)
unfolding place_at
entered xs ys x h = ap (λ (zs : List (Bor (List ℕ))). place_at (names zs) true) h ∙ ap (λ (ns : List (List ℕ)). place_at ns true) (names_push xs x)

outside_is : (name : List ℕ) (outer : List (List ℕ)) → place_at outer true ≡ outside_of (name ∷ outer)
unfolding place_at outside_of
outside_is name [] = refl
outside_is name (next ∷ more) = refl

pub left : (xs ys : List (Bor (List ℕ))) (x : Bor (List ℕ)) → xs ≡ ys ++ (x ∷ []) → place_at (names ys) true ≡ outside_of (names xs)
left xs ys x h = outside_is (upper x.now) (names ys) ∙ ap outside_of (sym (ap names h ∙ names_push ys x))

pub left_none : (xs ys : List (Bor (List ℕ))) → xs ≡ ys ++ [] → length ys ≡ 0 → place_at (names ys) true ≡ outside_of (names xs)
unfolding place_at outside_of
left_none xs [] h k = ap outside_of (sym (ap names h))
left_none xs (y ∷ ys) h k = absurd (omega arith)

pub named : (ns : List (List ℕ)) (begun : Bool) (name : List ℕ) (outer : List (List ℕ)) → ns ≡ name ∷ outer → place_at ns begun ≡ Within (name ∷ outer)
unfolding place_at
named ns begun name outer h = ap (λ (xs : List (List ℕ)). place_at xs begun) h

-- the fault of a line where the names are known
pub fault_named : (number : ℕ) (ns : List (List ℕ)) (begun : Bool) (name : List ℕ) (outer : List (List ℕ)) (kind : Kind) {uid : Option (List ℕ)} {result : Option ItemError} → ns ≡ name ∷ outer
    → uid ≡ uid_at (place_at ns begun) kind → (uid ≡ uid_at (Within (name ∷ outer)) kind → result ≡ fault_at number (Within (name ∷ outer)) kind) → result ≡ fault_at number (place_at ns begun) kind
fault_named number ns begun name outer kind h k told =
    let at : place_at ns begun ≡ Within (name ∷ outer) = named ns begun name outer h in
    told (k ∙ ap (λ (p : Place). uid_at p kind) at) ∙ ap (λ (p : Place). fault_at number p kind) (sym at)

there : {X : Type 0} {x : X} → ◌≡◌ {A = Option X} (Some x) None → ⊥
there h = apart h
  where
    apart : {X : Type 0} {x : X} → ◌≡◌ {A = Option X} (Some x) None → ⊥
    apart e = cc

-- a line without a fault moves the place as it should
pub went_in : (number : ℕ) (ns : List (List ℕ)) (begun : Bool) (name : List ℕ) → fault_at number (place_at ns begun) (Opens name) ≡ None → Within (name ∷ ns) ≡ next_place (place_at ns begun) (Opens name)
unfolding place_at fault_at next_place
went_in number [] false name h = refl
went_in number [] true name h = absurd (there h)
went_in number (n ∷ ns) begun name h = refl

pub went_out : (number : ℕ) (ns : List (List ℕ)) (begun : Bool) (name : List ℕ) → fault_at number (place_at ns begun) (Closes name) ≡ None → outside_of ns ≡ next_place (place_at ns begun) (Closes name)
unfolding place_at fault_at next_place
went_out number [] false name h = absurd (there h)
went_out number [] true name h = absurd (there h)
went_out number (n ∷ ns) begun name h = refl

pub went_on : (ns : List (List ℕ)) (begun : Bool) (name value : List ℕ) → place_at ns begun ≡ next_place (place_at ns begun) (Property name value)
unfolding place_at next_place
went_on [] false name value = refl
went_on [] true name value = refl
went_on (n ∷ ns) begun name value = refl

pub went_by : (ns : List (List ℕ)) (begun : Bool) → place_at ns begun ≡ next_place (place_at ns begun) Blank
unfolding place_at next_place
went_by [] false = refl
went_by [] true = refl
went_by (n ∷ ns) begun = refl
