-- Lines of a configuration: physical lines, and what each is (this project's own).
use Rattle.std.specs.Prelude.{ℕ, ◌+◌, ◌==◌, Bool, true, false, not, ◌&&◌, ◌||◌, nat_lt, nat_eq, ◌-◌, if◌then◌else◌, List, [], ◌∷◌, length, take, drop, map, position, codes, Option, Some, None}
use Rattle.std.specs.List.{list_all, ends_with}
use Rattle.std.specs.Char.{is_ascii_alphanumeric, to_ascii_lowercase}
use Rattle.std.specs.Str.{bytes_eq}
use Rattle.config_ini.specs.declared.kinds.SectionKind.TheVariants.{General, Pair, Storage}
use Rattle.config_ini.specs.declared.kinds.SectionKind.{SectionKind}
use Rattle.config_ini.specs.declared.kinds.Title.{Title}
use Rattle.config_ini.specs.declared.kinds.Key.{Key}
use Rattle.config_ini.specs.declared.kinds.LineKind.{LineKind}
use Rattle.config_ini.specs.declared.kinds.LineKind.TheVariants as line

-- a space or a tab
abbrev pub is_blank : ℕ → Bool
is_blank b = b == 32 || b == 9

-- what stands behind the place k
abbrev pub behind : ℕ → List ℕ → List ℕ
behind k text = drop (k + 1) text

-- ---- blank lines and comments

-- what the first byte of a line other than space and tab says: a line without one is blank
abbrev pub passes : Option ℕ → Bool
passes None = true
passes (Some b) = b == 35 || b == 59

abbrev pub first_visible : List ℕ → Option ℕ
first_visible [] = None
first_visible (b ∷ bs) = if is_blank b then first_visible bs else Some b

-- blank, or a comment: it begins with `#` or `;`, which blanks may stand before
abbrev pub is_passed : List ℕ → Bool
is_passed line = passes (first_visible line)

-- ---- heads of sections

abbrev pub is_name_byte : ℕ → Bool
is_name_byte b = is_ascii_alphanumeric b || (b == 95 || b == 45)

-- one or more letters, digits, `_` or `-`
abbrev pub is_name : List ℕ → Bool
is_name name = nat_lt 0 (length name) && list_all is_name_byte name

abbrev pub titled : SectionKind → List ℕ → Option Title
titled kind name = if is_name name then Some (record { kind = kind; name = name }) else None

-- a section's head by its word, and its name behind it
abbrev pub named : List ℕ → List ℕ → Option Title
named word name = if bytes_eq word (codes "pair") then titled Pair name else if bytes_eq word (codes "storage") then titled Storage name else None

abbrev pub behind_blank : List ℕ → List ℕ → Option Title
behind_blank word [] = None
behind_blank word (blank ∷ name) = named word name

abbrev pub general : List ℕ → Option Title
general inner = if bytes_eq inner (codes "general") then Some (record { kind = General; name = [] }) else None

-- cut at the first blank
abbrev pub title_at : Option ℕ → List ℕ → Option Title
title_at None inner = general inner
title_at (Some k) inner = behind_blank (take k inner) (drop k inner)

-- what stands between the brackets: `general`, or `pair` or `storage`, one blank and a name
abbrev pub title_in : List ℕ → Option Title
title_in inner = title_at (position is_blank inner) inner

abbrev pub closed : List ℕ → List ℕ → Option Title
closed inner [] = None
closed inner (bracket ∷ behind) = if list_all is_blank behind then title_in inner else None

-- cut at the first closing bracket: no head has one within, and blanks alone stand behind it
abbrev pub closed_at : Option ℕ → List ℕ → Option Title
closed_at None text = None
closed_at (Some k) text = closed (take k text) (drop k text)

-- the head of a section, behind its opening bracket
abbrev pub title_of : List ℕ → Option Title
title_of text = closed_at (position (λ b. b == 93) text) text

-- ---- keys

abbrev pub is_key_byte : ℕ → Bool
is_key_byte b = is_ascii_alphanumeric b || (b == 95 || b == 46)

-- the value: what stands behind `=` or `:`, which blanks may stand before
abbrev pub behind_mark : List ℕ → Option (List ℕ)
behind_mark [] = None
behind_mark (b ∷ bs) = if is_blank b then behind_mark bs else if b == 61 || b == 58 then Some bs else None

-- a key in lower case. What stands before a final `.fetch` is its name
abbrev pub key_from : List ℕ → Key
key_from key = if ends_with nat_eq key (codes ".fetch") && nat_lt 6 (length key) then record { name = take (length key - 6) key; is_fetched = true } else record { name = key; is_fetched = false }

abbrev pub keyed : List ℕ → Option (List ℕ) → LineKind
keyed key None = line.Bad
keyed key (Some value) = if nat_lt 0 (length key) then line.Key (key_from (map to_ascii_lowercase key)) value else line.Bad

-- cut at the first byte that isn't one of a key
abbrev pub key_at : Option ℕ → List ℕ → LineKind
key_at None text = line.Bad
key_at (Some k) text = keyed (take k text) (behind_mark (drop k text))

-- a key, blanks, `=` or `:`, and a value
abbrev pub key_kind : List ℕ → LineKind
key_kind text = key_at (position (λ b. not (is_key_byte b)) text) text

abbrev pub section_kind : Option Title → LineKind
section_kind None = line.Bad
section_kind (Some title) = line.Section title

-- a line that isn't passed over, by its first byte
abbrev pub visible_kind : List ℕ → LineKind
visible_kind [] = line.Passed
visible_kind (b ∷ bs) = if is_blank b then line.Continued else if b == 91 then section_kind (title_of bs) else key_kind (b ∷ bs)

unfoldable pub kind_of : List ℕ → LineKind
kind_of text = if is_passed text then line.Passed else visible_kind text
