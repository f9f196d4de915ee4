-- The path that an href names (RFC 4918, section 8.3; the URL Standard of the WHATWG).
use Rattle.std.specs.Prelude.{ℕ, ◌==◌, ◌||◌, nat_eq, if◌then◌else◌, List, [], ◌∷◌, ◌++◌, codes, Option, Some, None, is_some, unwrap_or, Ok, Err}
use Rattle.std.specs.List.{starts_with}
use Rattle.url.specs.Parts.{Parts}
use Rattle.url.specs.Parser.{Parsed, and_then, parse_url}
use Rattle.url_paths.specs.Paths.{rooted}

-- what stands behind a mark that a text begins with
abbrev pub behind : ℕ → List ℕ → Option (List ℕ)
behind mark [] = None
behind mark (b ∷ rest) = if b == mark then Some rest else None

abbrev pub without_slash : List ℕ → List ℕ
without_slash text = unwrap_or (behind 47 text) text

-- the segments of a path without a slash at its front: `rooted` writes one before each of them, and the first of
-- these isn't the path's
abbrev pub unrooted : List ℕ → List ℕ
unrooted path = without_slash (rooted (codes "/" ++ path))

-- a path, each of its segments decoded and escaped again; only that of a URL without a server, as `mailto:a`, has
-- no slash at its front
unfoldable pub canonical : List ℕ → List ℕ
canonical path = if starts_with nat_eq path (codes "/") then rooted path else unrooted path

-- the path of a URL that has neither query nor fragment; scheme, host and port are passed over, since another
-- server may stand between (this project's own)
abbrev pub path_in : Parsed Parts → Option (List ℕ)
path_in (Ok url) = if is_some url.query || is_some url.fragment then None else Some (canonical url.path)
path_in (Err error) = None

-- the URL that an href is at a collection's path
abbrev pub joined : List ℕ → List ℕ → Parsed Parts
joined base href = and_then (parse_url None (codes "http://h" ++ base)) (λ url. parse_url (Some url) href)

-- the path of an href at a collection's path; none where the two aren't joined, or there is a query or a fragment
unfoldable pub path_of : List ℕ → List ℕ → Option (List ℕ)
path_of base href = path_in (joined base href)
