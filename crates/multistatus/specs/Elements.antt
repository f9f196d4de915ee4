-- Elements: what they hold, and its tokens (XML 1.0, fifth edition, sections 2.1, 3 and 3.1).
use Rattle.std.specs.Prelude.{ℕ, Bool, true, false, ◌&&◌, List, [], ◌∷◌, ◌++◌, zero, suc, Option, Some, None, if◌then◌else◌}
use Rattle.multistatus.specs.declared.tags.Name.{Name}
use Rattle.multistatus.specs.declared.tags.Tag.{Tag}
use Rattle.multistatus.specs.declared.tokens.Token.{Token}
use Rattle.multistatus.specs.declared.tokens.Token.TheVariants.{Passed, Blank, Chars, Open, Empty, Close}

-- what a document or an element holds, in order
pub data Content : Type 0 where
  nothing : Content
  blanks : List ℕ → Content → Content
  text : List ℕ → Content → Content
  element : Tag → Content → Content → Content

-- a token without what is passed over, an empty-element tag being a start and an end
pub data Event : Type 0 where
  is_blank is_text : List ℕ → Event
  opens : Tag → Event
  closes : Name → Event

abbrev pub events_of_token : Token → List Event
events_of_token Passed = []
events_of_token (Blank white) = is_blank white ∷ []
events_of_token (Chars chars) = is_text chars ∷ []
events_of_token (Open tag) = opens tag ∷ []
events_of_token (Empty tag) = opens tag ∷ closes tag.name ∷ []
events_of_token (Close name) = closes name ∷ []

-- an element is its start, what it holds, and an end of the same name
abbrev pub events_of : Content → List Event
events_of nothing = []
events_of (blanks white more) = is_blank white ∷ events_of more
events_of (text chars more) = is_text chars ∷ events_of more
events_of (element tag inside more) = opens tag ∷ events_of inside ++ closes tag.name ∷ events_of more

-- only white space
abbrev pub is_blank_only : Content → Bool
is_blank_only nothing = true
is_blank_only (blanks white more) = is_blank_only more
is_blank_only (text chars more) = false
is_blank_only (element tag inside more) = false

-- a document holds one element, and only white space beside it
abbrev pub root_of : Content → Option (Tag × Content)
root_of nothing = None
root_of (blanks white more) = root_of more
root_of (text chars more) = None
root_of (element tag inside more) = if is_blank_only more then Some (tag, inside) else None

-- no more than so many elements stand in one another
abbrev pub is_within : ℕ → Content → Bool
is_within n nothing = true
is_within n (blanks white more) = is_within n more
is_within n (text chars more) = is_within n more
is_within zero (element tag inside more) = false
is_within (suc n) (element tag inside more) = is_within n inside && is_within (suc n) more
