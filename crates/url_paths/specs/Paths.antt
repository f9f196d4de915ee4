-- Paths of URLs, escaped in one way (RFC 3986, sections 2.1, 3.3 and 6.2.2).
use Rattle.std.specs.Prelude.{ℕ, ◌==◌, nat_eq, List, [], ◌∷◌, ◌++◌, codes, if◌then◌else◌}
use Rattle.std.specs.List.{flat_map, slice_split, ends_with}
use Rattle.percent_encoding.specs.Percent.{percent_encode, percent_decode}
use Rattle.url_paths.specs.declared.escaped.TheConstants.{ESCAPED}

-- the segments of a path
abbrev pub segments_of : List ℕ → List (List ℕ)
segments_of path = slice_split (λ b. b == 47) path

-- a segment decoded and escaped again, behind its slash
abbrev pub behind_slash : List ℕ → List ℕ
behind_slash segment = 47 ∷ percent_encode ESCAPED (percent_decode segment)

abbrev pub behind_first : {A : Type 0} → List A → List A
behind_first [] = []
behind_first (x ∷ xs) = xs

-- a path that begins with a slash: before that slash stands an empty segment, which is left out
unfoldable pub rooted : List ℕ → List ℕ
rooted path = flat_map behind_slash (behind_first (segments_of path))

abbrev pub with_slash : List ℕ → List ℕ
with_slash path = if ends_with nat_eq path (codes "/") then path else path ++ codes "/"

-- the same of a folder's path, which ends with a slash
unfoldable pub folder_path : List ℕ → List ℕ
folder_path path = rooted (with_slash path)
