-- Properties with the status of their propstat (RFC 4918, section 14.22).
use Rattle.std.specs.Prelude.{ℕ, List, [], ◌∷◌, ◌++◌, map}
use Rattle.multistatus.specs.declared.rows.Prop.{Prop}
use Rattle.multistatus.specs.declared.rows.Property.{Property}
use Rattle.multistatus.specs.declared.props.Propstat.{Propstat}

abbrev pub with_code : ℕ → Property → Prop
with_code code p = record { space = p.space; name = p.name; code = code; text = p.text; children = p.children; hrefs = p.hrefs }

-- the properties of propstats, in order
abbrev pub props_of : List Propstat → List Prop
props_of [] = []
props_of (propstat ∷ more) = map (with_code propstat.code) propstat.listed ++ props_of more

-- those that are left of a propstat, and those of the propstats behind it
abbrev pub left_of : ℕ → List Property → List Propstat → List Prop
left_of code listed propstats = map (with_code code) listed ++ props_of propstats
