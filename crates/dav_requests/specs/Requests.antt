-- The requests to a collection (RFC 4918, RFC 4791, RFC 6352 and RFC 5689; RFC 9110 for the conditions of writes).
-- Which fields are sent, and their order, is this project's own.
use Rattle.std.specs.Prelude.{ℕ, ◌&&◌, if◌then◌else◌, List, [], ◌∷◌, Option, Some, None, is_none, unwrap_or, codes}
use Rattle.http_client.specs.declared.request.Method.{Method}
use Rattle.http_client.specs.declared.request.Method.TheVariants.{Propfind, Proppatch, Report, Put, Delete, Mkcol}
use Rattle.http_client.specs.declared.request.Request.{Request}
use Rattle.dav_requests.specs.declared.site.DavKind.{DavKind}
use Rattle.dav_requests.specs.declared.site.DavKind.TheVariants.{Calendar, Addressbook}
use Rattle.dav_requests.specs.declared.site.DavSite.{DavSite}
use Rattle.dav_requests.specs.Bodies.{listing_body, multiget_body, prop_body, update_body, mkcol_body}

-- a header field: its name and its value
abbrev pub Field : Type 0
Field = List ℕ × List ℕ

abbrev pub or_empty : Option (List ℕ) → List ℕ
or_empty text = unwrap_or text []

-- a user and a password, where either is known; the other then has no letters (this project's own)
abbrev pub login_of : Option (List ℕ) → Option (List ℕ) → Option (List ℕ × List ℕ)
login_of username password =
    if is_none username && is_none password then None else Some (or_empty username, or_empty password)

-- a request for a path of the site's server
abbrev pub request_to : DavSite → List ℕ → Method → List Field → Request
request_to site path method extra = record {
  method = method;
  host = site.host;
  port = site.port;
  path = path;
  agent = site.agent;
  login = login_of site.username site.password;
  extra = extra;
}

-- the media type of a body in XML (RFC 4918, section 8.2)
abbrev pub xml_fields : List Field
xml_fields = (codes "Content-Type", codes "application/xml; charset=utf-8") ∷ []

-- the same, with how far below a resource the server is to look (RFC 4918, section 10.2)
abbrev pub depth_fields : List ℕ → List Field
depth_fields depth = (codes "Content-Type", codes "application/xml; charset=utf-8") ∷ (codes "Depth", depth) ∷ []

-- the etag and the type of each resource: a PROPFIND of depth 1 (RFC 4918, section 9.1)
unfoldable pub list_request : DavSite → Request
list_request site = request_to site site.path (Propfind listing_body) (depth_fields (codes "1"))

-- a depth is sent for cards alone; without one it is 0 (RFC 3253, section 3.6)
abbrev pub multiget_fields : DavKind → List Field
multiget_fields Calendar = xml_fields
multiget_fields Addressbook = depth_fields (codes "0")

-- the etags and texts of these resources: a REPORT (RFC 4791, section 7.9; RFC 6352, section 8.7)
unfoldable pub multiget_request : DavSite → List (List ℕ) → Request
multiget_request site hrefs = request_to site site.path (Report (multiget_body site.kind hrefs)) (multiget_fields site.kind)

-- the media type of an item's text (RFC 5545, section 8.1; RFC 6350, section 10.1)
abbrev pub media_type : DavKind → List ℕ
media_type Calendar = codes "text/calendar; charset=utf-8"
media_type Addressbook = codes "text/vcard; charset=utf-8"

-- a write acts only where this etag stands (RFC 9110, section 13.1.1), or where nothing does (section 13.1.2)
abbrev pub condition : Option (List ℕ) → Field
condition (Some etag) = (codes "If-Match", etag)
condition None = (codes "If-None-Match", codes "*")

abbrev pub put_fields : DavKind → Option (List ℕ) → List Field
put_fields kind etag = (codes "Content-Type", media_type kind) ∷ condition etag ∷ []

-- a text is written at an href: a PUT of its bytes (RFC 9110, section 9.3.4)
unfoldable pub put_request : DavSite → List ℕ → Option (List ℕ) → List ℕ → Request
put_request site href etag text = request_to site href (Put text) (put_fields site.kind etag)

-- what stands at an href is removed: a DELETE (RFC 9110, section 9.3.5)
unfoldable pub delete_request : DavSite → List ℕ → List ℕ → Request
delete_request site href etag = request_to site href Delete (condition (Some etag) ∷ [])

-- one property: a PROPFIND of depth 0 (RFC 4918, section 9.1)
unfoldable pub prop_request : DavSite → List ℕ → List ℕ → List ℕ → Request
prop_request site path space name = request_to site path (Propfind (prop_body space name)) (depth_fields (codes "0"))

-- one property of the collection is set or removed: a PROPPATCH (RFC 4918, section 9.2)
unfoldable pub meta_request : DavSite → List ℕ → List ℕ → Option (List ℕ) → Request
meta_request site space name value = request_to site site.path (Proppatch (update_body space name value)) xml_fields

-- the collection is made: an extended MKCOL (RFC 5689, section 3)
unfoldable pub mkcol_request : DavSite → Request
mkcol_request site = request_to site site.path (Mkcol (mkcol_body site.kind)) xml_fields
