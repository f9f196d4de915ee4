-- Names, attributes and tags (XML 1.0, fifth edition, sections 2.3 and 3.1; Namespaces in XML 1.0, section 4). A name
-- may have any characters but those that end it (this project's own).
use Rattle.std.specs.Prelude.{◌≡◌, ◌<◌, ◌≤◌, length, Result, Ok, Err, ℕ, Bool, true, false, ◌||◌, not, List, [], ◌∷◌, zero, suc, Option, Some, None, option_map, codes, if◌then◌else◌, ◌==◌}
use Rattle.std.specs.List.{list_any}
use Rattle.std.specs.Char.{is_ascii_digit}
use Rattle.multistatus.specs.declared.tags.Name.{Name}
use Rattle.multistatus.specs.declared.tags.Attribute.{Attribute}
use Rattle.multistatus.specs.declared.tags.TagStep.{TagStep}
use Rattle.multistatus.specs.declared.tags.TagStep.TheVariants.{Onward, Ended}
use Rattle.multistatus.specs.declared.tags.TagRest.{TagRest}
use Rattle.multistatus.specs.declared.error.MultiError.{MultiError}
use Rattle.multistatus.specs.declared.error.MultiError.TheVariants.{Bad, NoMemory}
use Rattle.multistatus.specs.Steps.{◌>>=◌}
use Rattle.multistatus.specs.Texts.{is_white, begins_white, front, behind, stripped, cut, char_data}

-- no white space and none of `<>&"'/=:`
abbrev pub is_part_byte : ℕ → Bool
is_part_byte b = not (is_white b || b == 60 || b == 62 || b == 38 || b == 34 || b == 39 || b == 47 || b == 61 || b == 58)

-- a part of a name has a byte, and its first is no digit, `-` or `.`
abbrev pub is_part : List ℕ → Bool
is_part [] = false
is_part (b ∷ bytes) = not (is_ascii_digit b || b == 45 || b == 46)

-- a part at the front, and what follows it
unfoldable pub part_at : List ℕ → Option (List ℕ × List ℕ)
part_at bytes = if is_part (front is_part_byte bytes) then Some (front is_part_byte bytes, behind is_part_byte bytes) else None

-- a name is one part, or two joined by a colon
abbrev pub second_part : List ℕ → List ℕ → Option (List ℕ) → Option (Name × List ℕ)
second_part first rest None = Some (record { prefix = []; local = first }, rest)
second_part first rest (Some more) = part_at more >>= λ second. Some (record { prefix = first; local = second.0 }, second.1)

unfoldable pub name_at : List ℕ → Option (Name × List ℕ)
name_at bytes = part_at bytes >>= λ first. second_part first.0 first.1 (stripped (codes ":") first.1)

-- what stands in single or double quotes at the front, and what follows
abbrev pub single_quoted : Option (List ℕ) → Option (List ℕ × List ℕ)
single_quoted None = None
single_quoted (Some inside) = cut (codes "'") inside

abbrev pub quoted_by : List ℕ → Option (List ℕ) → Option (List ℕ × List ℕ)
quoted_by bytes None = single_quoted (stripped (codes "'") bytes)
quoted_by bytes (Some inside) = cut (codes "\"") inside

unfoldable pub quoted_at : List ℕ → Option (List ℕ × List ℕ)
quoted_at bytes = quoted_by bytes (stripped (codes "\"") bytes)

-- a value holds no `<`
unfoldable pub value_of : List ℕ → Option (List ℕ)
value_of piece = if list_any (λ b. b == 60) piece then None else char_data piece

-- an attribute at the front, and what follows it
unfoldable pub attribute_at : List ℕ → Option (Attribute × List ℕ)
attribute_at bytes =
    name_at bytes >>= λ name. stripped (codes "=") (behind is_white name.1) >>= λ after. quoted_at (behind is_white after) >>= λ quoted.
    value_of quoted.0 >>= λ value. Some (record { name = name.0; value = value }, quoted.1)

-- the end of a tag: whether the element is empty, and what follows
abbrev pub end_by : List ℕ → Option (List ℕ) → Option (Bool × List ℕ)
end_by bytes None = option_map (λ rest. (true, rest)) (stripped (codes "/>") bytes)
end_by bytes (Some rest) = Some (false, rest)

unfoldable pub tag_end : List ℕ → Option (Bool × List ℕ)
tag_end bytes = end_by bytes (stripped (codes ">") bytes)

-- one step through a tag: an attribute behind white space, or the end
pub data StepInTag : Type 0 where
  onward : Attribute → List ℕ → StepInTag
  ended : Option (Bool × List ℕ) → StepInTag

abbrev pub step_with : Option (Attribute × List ℕ) → StepInTag
step_with None = ended None
step_with (Some found) = onward found.0 found.1

abbrev pub step_inside : List ℕ → Option (Bool × List ℕ) → StepInTag
step_inside bytes (Some end) = ended (Some end)
step_inside bytes None = if begins_white bytes then step_with (attribute_at (behind is_white bytes)) else ended None

unfoldable pub tag_step : List ℕ → StepInTag
tag_step bytes = step_inside bytes (tag_end (behind is_white bytes))

-- the attributes of a tag, at most so many; whether the element is empty; and what follows the tag
pub record RestOfTag : Type 0 where
  pub attributes : List Attribute
  pub is_empty : Bool
  pub rest : List ℕ

abbrev pub ended_with : Option (Bool × List ℕ) → Option RestOfTag
ended_with None = None
ended_with (Some end) = Some (record { attributes = []; is_empty = end.0; rest = end.1 })

abbrev pub with_attribute : Attribute → RestOfTag → Option RestOfTag
with_attribute attribute more = Some (record { attributes = attribute ∷ more.attributes; is_empty = more.is_empty; rest = more.rest })

abbrev pub rest_by : (List ℕ → Option RestOfTag) → StepInTag → Option RestOfTag
rest_by more (ended end) = ended_with end
rest_by more (onward attribute rest) = more rest >>= with_attribute attribute

abbrev pub tag_rest : ℕ → List ℕ → Option RestOfTag
tag_rest zero bytes = None
tag_rest (suc n) bytes = rest_by (tag_rest n) (tag_step bytes)

-- what the functions of this crate answer of a step and of a tag
abbrev pub GivesStep : Result TagStep MultiError → StepInTag → Type 0
GivesStep (Ok (Onward attribute rest)) step = step ≡ onward attribute rest.now
GivesStep (Ok (Ended is_empty rest)) step = step ≡ ended (Some (is_empty, rest.now))
GivesStep (Err Bad) step = step ≡ ended None
GivesStep (Err NoMemory) step = Unit {0}

-- an attribute takes at least a byte
abbrev pub LeavesLess : ℕ → Result TagStep MultiError → Type 0
LeavesLess most (Ok (Onward attribute rest)) = length rest.now < most
LeavesLess most (Ok (Ended is_empty rest)) = length rest.now ≤ most
LeavesLess most (Err error) = Unit {0}

abbrev pub rest_of : TagRest → RestOfTag
rest_of r = record { attributes = r.attributes; is_empty = r.is_empty; rest = r.rest.now }
