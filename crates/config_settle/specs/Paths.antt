-- Paths of folders and files, and programs: the home, and the normal form (this project's own).
use Rattle.std.specs.Prelude.{ℕ, ◌==◌, Bool, true, false, not, ◌&&◌, ◌||◌, nat_lt, nat_eq, if◌then◌else◌, List, [], ◌∷◌, ◌++◌, length, codes, Option, Some, None, unwrap_or, Result, Ok, Err}
use Rattle.std.specs.List.{flat_map, slice_split, starts_with}
use Rattle.std.specs.Str.{bytes_eq}
use Rattle.config_ini.specs.declared.error.ConfigError.{ConfigError}
use Rattle.config_ini.specs.declared.error.ConfigError.TheVariants.{NoHome}
use Rattle.config_ini.specs.Answers.{◌>>=◌}
use Rattle.config_model.specs.Meanings.{has_control}
use Rattle.config_settle.specs.Texts.{bad_text}

-- ---- the normal form

-- a segment that changes nothing: an empty one, as between two slashes, or `.`
abbrev pub is_idle : List ℕ → Bool
is_idle segment = (length segment == 0) || bytes_eq segment (codes ".")

-- a segment behind its slash, and nothing for an idle one
unfoldable pub kept_segment : List ℕ → List ℕ
kept_segment segment = if is_idle segment then [] else 47 ∷ segment

abbrev pub segments_of : List ℕ → List (List ℕ)
segments_of path = slice_split (λ b. b == 47) path

-- where nothing is left, the root
abbrev pub or_root : List ℕ → List ℕ
or_root [] = codes "/"
or_root (slash ∷ rest) = slash ∷ rest

-- what stands behind a mark that a text begins with
abbrev pub behind : ℕ → List ℕ → Option (List ℕ)
behind mark [] = None
behind mark (b ∷ rest) = if b == mark then Some rest else None

-- without its first slash; where nothing is left, the folder itself
abbrev pub or_here : List ℕ → List ℕ
or_here kept = unwrap_or (behind 47 kept) (codes ".")

-- without repeated slashes, segments `.` and a final slash; a path that begins with a slash still does
unfoldable pub normalised : List ℕ → List ℕ
normalised path = if starts_with nat_eq path (codes "/") then or_root (flat_map kept_segment (segments_of path)) else or_here (flat_map kept_segment (segments_of path))

-- ---- the mark of a collection, `%s`

abbrev pub begins_s : List ℕ → Bool
begins_s [] = false
begins_s (b ∷ bs) = b == 115

unfoldable pub has_mark : List ℕ → Bool
has_mark [] = false
has_mark (b ∷ bs) = if b == 37 && begins_s bs then true else has_mark bs

-- a mark stands in the last of these segments, and in no other
unfoldable pub is_last_marked : List (List ℕ) → Bool
is_last_marked [] = false
is_last_marked (segment ∷ []) = has_mark segment
is_last_marked (segment ∷ next ∷ rest) = if has_mark segment then false else is_last_marked (next ∷ rest)

abbrev pub is_marked : List ℕ → Bool
is_marked path = is_last_marked (segments_of path)

-- ---- the home

abbrev pub begins_path : List ℕ → Bool
begins_path rest = (length rest == 0) || starts_with nat_eq rest (codes "/")

abbrev pub home_rest_by : Option (List ℕ) → Option (List ℕ)
home_rest_by None = None
home_rest_by (Some rest) = if begins_path rest then Some rest else None

-- what stands behind the home, where a path begins there: behind `~` in `~` alone and in `~/` and more
abbrev pub home_rest : List ℕ → Option (List ℕ)
home_rest text = home_rest_by (behind 126 text)

abbrev pub no_home : List ℕ → List ℕ → ConfigError
no_home section key = NoHome section key

abbrev pub at_home : List ℕ → List ℕ → Option (List ℕ) → List ℕ → Result (List ℕ) ConfigError
at_home section key None rest = Err (no_home section key)
at_home section key (Some home) rest = Ok (home ++ rest)

abbrev pub expanded_by : List ℕ → List ℕ → Option (List ℕ) → List ℕ → Option (List ℕ) → Result (List ℕ) ConfigError
expanded_by section key home text None = Ok text
expanded_by section key home text (Some rest) = at_home section key home rest

abbrev pub expanded : List ℕ → List ℕ → Option (List ℕ) → List ℕ → Result (List ℕ) ConfigError
expanded section key home text = expanded_by section key home text (home_rest text)

-- not empty, and where collections are named by a mark, with the mark in its place
unfoldable pub is_placed : Bool → List ℕ → Bool
is_placed collected text = nat_lt 0 (length text) && (not collected || is_marked (normalised text))

unfoldable pub placed : Bool → List ℕ → List ℕ → List ℕ → Result (List ℕ) ConfigError
placed collected section key text = if is_placed collected text then Ok text else Err (bad_text section key)

-- a text as it is written, which may begin in the home, and with it. Both are looked at, so what is refused is refused without a home too.
unfoldable pub whole_of : Bool → List ℕ → List ℕ → Option (List ℕ) → List ℕ → Result (List ℕ) ConfigError
whole_of collected section key home text =
    if has_control text then Err (bad_text section key)
    else (placed collected section key text >>= λ written. expanded section key home written >>= λ whole. placed collected section key whole)

unfoldable pub path_of : Bool → List ℕ → List ℕ → Option (List ℕ) → List ℕ → Result (List ℕ) ConfigError
path_of collected section key home text = whole_of collected section key home text >>= λ whole. Ok (normalised whole)

abbrev pub program_of : List ℕ → List ℕ → Option (List ℕ) → Option (List ℕ) → Result (Option (List ℕ)) ConfigError
program_of section key home None = Ok None
program_of section key home (Some text) = whole_of false section key home text >>= λ whole. Ok (Some whole)
