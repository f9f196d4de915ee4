-- What follows of the bodies of requests.
use Rattle.std.specs.Prelude.{◌≡◌, ℕ, true, List, Some}
use Rattle.std.specs.List.{list_all}
use Rattle.multistatus.specs.Texts.{char_data}
use Rattle.multistatus.specs.Tokens.{is_text_byte}
use Rattle.dav_requests.specs.Bodies.{escaped}

-- a text in a body begins no tag, and XML's rules read it there as it is (XML 1.0, sections 2.4, 2.11 and 4.6)
pub record IsReadBack (text : List ℕ) : Type 0 where
  pub stays : list_all is_text_byte (escaped text) ≡ true
  pub reads : char_data (escaped text) ≡ Some text
