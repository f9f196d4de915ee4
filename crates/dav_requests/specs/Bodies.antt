-- The bodies of requests, in XML (RFC 4918, section 14; RFC 4791, section 9; RFC 6352, section 10; RFC 5689,
-- section 5). How each is spelled, with `d`, `c` and `x` as prefixes and no space, is this project's own.
use Rattle.std.specs.Prelude.{ℕ, ◌==◌, if◌then◌else◌, List, [], ◌∷◌, ◌++◌, Option, Some, None, codes}
use Rattle.std.specs.List.{flat_map}
use Rattle.dav_requests.specs.declared.site.DavKind.{DavKind}
use Rattle.dav_requests.specs.declared.site.DavKind.TheVariants.{Calendar, Addressbook}

-- a byte of a text in XML: `&`, `<` and `>` by their entities (XML 1.0, section 4.6), a carriage return by its
-- number, since a reader would make it a line feed (section 2.11)
abbrev pub escaped_byte : ℕ → List ℕ
escaped_byte byte =
    if byte == 38 then codes "&amp;"
    else if byte == 60 then codes "&lt;"
    else if byte == 62 then codes "&gt;"
    else if byte == 13 then codes "&#13;"
    else byte ∷ []

abbrev pub escaped : List ℕ → List ℕ
escaped text = flat_map escaped_byte text

-- XML 1.0, section 2.8
abbrev pub declaration : List ℕ
declaration = codes "<?xml version=\"1.0\" encoding=\"utf-8\"?>"

-- the etag and the type of each resource (RFC 4918, sections 14.20, 15.6 and 15.9)
unfoldable pub listing_body : List ℕ
listing_body = declaration ++ codes "<d:propfind xmlns:d=\"DAV:\"><d:prop><d:getetag/><d:resourcetype/></d:prop></d:propfind>"

-- etags and texts (RFC 4791, sections 9.6 and 9.10; RFC 6352, sections 10.4 and 10.7)
abbrev pub multiget_open : DavKind → List ℕ
multiget_open Calendar = codes "<c:calendar-multiget xmlns:d=\"DAV:\" xmlns:c=\"urn:ietf:params:xml:ns:caldav\"><d:prop><d:getetag/><c:calendar-data/></d:prop>"
multiget_open Addressbook = codes "<c:addressbook-multiget xmlns:d=\"DAV:\" xmlns:c=\"urn:ietf:params:xml:ns:carddav\"><d:prop><d:getetag/><c:address-data/></d:prop>"

abbrev pub multiget_close : DavKind → List ℕ
multiget_close Calendar = codes "</c:calendar-multiget>"
multiget_close Addressbook = codes "</c:addressbook-multiget>"

-- RFC 4918, section 14.7
abbrev pub href_element : List ℕ → List ℕ
href_element href = codes "<d:href>" ++ escaped href ++ codes "</d:href>"

-- the resources at these hrefs, in their order (RFC 4791, section 7.9; RFC 6352, section 8.7)
unfoldable pub multiget_body : DavKind → List (List ℕ) → List ℕ
multiget_body kind hrefs = declaration ++ multiget_open kind ++ flat_map href_element hrefs ++ multiget_close kind

-- a property's element without content, and with a text
abbrev pub empty_element : List ℕ → List ℕ
empty_element name = codes "<x:" ++ escaped name ++ codes "/>"

abbrev pub tag : List ℕ → List ℕ → List ℕ
tag front name = front ++ escaped name ++ codes ">"

abbrev pub text_element : List ℕ → List ℕ → List ℕ
text_element name value = tag (codes "<x:") name ++ escaped value ++ tag (codes "</x:") name

-- the namespaces of the outermost element: that of DAV, and the property's
abbrev pub namespaces : List ℕ → List ℕ
namespaces space = codes " xmlns:d=\"DAV:\" xmlns:x=\"" ++ escaped space ++ codes "\">"

abbrev pub outer_tag : List ℕ → List ℕ → List ℕ
outer_tag front space = front ++ namespaces space

-- one property (RFC 4918, section 14.20)
unfoldable pub prop_body : List ℕ → List ℕ → List ℕ
prop_body space name =
    declaration ++ outer_tag (codes "<d:propfind") space
    ++ codes "<d:prop>" ++ empty_element name ++ codes "</d:prop></d:propfind>"

-- RFC 4918, section 14.26
abbrev pub set_element : List ℕ → List ℕ → List ℕ
set_element name value = codes "<d:set><d:prop>" ++ text_element name value ++ codes "</d:prop></d:set>"

-- RFC 4918, section 14.23
abbrev pub remove_element : List ℕ → List ℕ
remove_element name = codes "<d:remove><d:prop>" ++ empty_element name ++ codes "</d:prop></d:remove>"

-- a value is set, and none removes the property
abbrev pub change_element : List ℕ → Option (List ℕ) → List ℕ
change_element name (Some value) = set_element name value
change_element name None = remove_element name

-- RFC 4918, section 14.19
unfoldable pub update_body : List ℕ → List ℕ → Option (List ℕ) → List ℕ
update_body space name value =
    declaration ++ outer_tag (codes "<d:propertyupdate") space ++ change_element name value ++ codes "</d:propertyupdate>"

-- a collection of a kind (RFC 5689, section 5.1; RFC 4791, section 4.2; RFC 6352, section 5.2)
abbrev pub mkcol_element : DavKind → List ℕ
mkcol_element Calendar = codes "<d:mkcol xmlns:d=\"DAV:\" xmlns:c=\"urn:ietf:params:xml:ns:caldav\"><d:set><d:prop><d:resourcetype><d:collection/><c:calendar/></d:resourcetype></d:prop></d:set></d:mkcol>"
mkcol_element Addressbook = codes "<d:mkcol xmlns:d=\"DAV:\" xmlns:c=\"urn:ietf:params:xml:ns:carddav\"><d:set><d:prop><d:resourcetype><d:collection/><c:addressbook/></d:resourcetype></d:prop></d:set></d:mkcol>"

unfoldable pub mkcol_body : DavKind → List ℕ
mkcol_body kind = declaration ++ mkcol_element kind
