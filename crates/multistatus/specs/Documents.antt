-- What bytes are as a document: a tree of elements with their names resolved (XML 1.0, fifth edition; Namespaces in XML
-- 1.0). No document type is read, no entity but the five, and no more than 32 elements in one another.
use Rattle.std.specs.Prelude.{◌≡◌, ℕ, true, List, Some, IsUtf8}
use Rattle.std.specs.List.{flat_map}
use Rattle.multistatus.specs.declared.tags.Tag.{Tag}
use Rattle.multistatus.specs.declared.tokens.Token.{Token}
use Rattle.multistatus.specs.Grammar.{HasBody, HasTokens}
use Rattle.multistatus.specs.Elements.{Content, events_of, events_of_token, root_of, is_within, element, nothing}
use Rattle.multistatus.specs.Namespaces.{Tree, first_scope, resolved}

abbrev pub most_nested : ℕ
most_nested = 32

-- bytes are a document of this tree: they are UTF-8 and are tokens; the tokens are those of one element, with white space beside
-- it; its names are resolved
pub record HasTree (bytes : List ℕ) (tree : Tree) : Type 0 where
  pub is_utf8 : IsUtf8 bytes
  pub body : List ℕ
  pub has_body : HasBody bytes body
  pub tokens : List Token
  pub has_tokens : HasTokens body tokens
  pub content : Content
  pub content_is : flat_map events_of_token tokens ≡ events_of content
  pub tag : Tag
  pub inside : Content
  pub root_is : root_of content ≡ Some (tag, inside)
  pub within : is_within most_nested (element tag inside nothing) ≡ true
  pub tree_is : resolved first_scope (element tag inside nothing) ≡ Some tree
