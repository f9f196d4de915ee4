-- What the values of keys mean, if they are allowed (this project's own).
use Rattle.std.specs.Prelude.{ℕ, ◌==◌, Bool, true, false, not, ◌&&◌, ◌||◌, nat_le, nat_lt, if◌then◌else◌, List, [], ◌∷◌, length, codes, Option, Some, None, option_map, option_and_then}
use Rattle.std.specs.List.{list_any}
use Rattle.std.specs.Str.{bytes_eq}
use Rattle.config_model.specs.declared.storage_kind.StorageKind.{StorageKind}
use Rattle.config_model.specs.declared.storage_kind.StorageKind.TheVariants.{Filesystem, Singlefile, Caldav, Carddav}
use Rattle.config_model.specs.declared.rules.ConflictRule.TheVariants.{Null, AWins, BWins, Command}
use Rattle.config_model.specs.declared.rules.Partial.{Partial}
use Rattle.config_model.specs.declared.rules.Partial.TheVariants.{Error, Ignore, Revert}
use Rattle.config_model.specs.declared.rules.MetaKey.{MetaKey}
use Rattle.config_model.specs.declared.rules.MetaKey.TheVariants.{Displayname, Color}
use Rattle.config_model.specs.declared.pair_rules.Conflict.{Conflict}
use Rattle.config_model.specs.declared.wanted.Wanted.{Wanted}
use Rattle.config_model.specs.declared.wanted.Wanted.TheVariants.{FromA, FromB, Named}
use Rattle.config_ini.specs.declared.setting.Setting.{Setting}
use Rattle.config_ini.specs.declared.setting.Setting.TheVariants as setting
use Rattle.config_ini.specs.declared.setting.Part.{Part}
use Rattle.config_ini.specs.declared.setting.Part.TheVariants as part

-- what f finds in each, if it finds something in all
unfoldable pub all_found : {A B : Type 0} → (A → Option B) → List A → Option (List B)
all_found f [] = Some []
all_found f (x ∷ xs) = option_and_then (λ y. option_map (λ ys. y ∷ ys) (all_found f xs)) (f x)

abbrev pub text_in : Setting → Option (List ℕ)
text_in (setting.Text text) = Some text
text_in _ = None

abbrev pub truth_in : Setting → Option Bool
truth_in (setting.Truth b) = Some b
truth_in _ = None

abbrev pub kind_named : List ℕ → Option StorageKind
kind_named name =
    if bytes_eq name (codes "filesystem") then Some Filesystem
    else if bytes_eq name (codes "singlefile") then Some Singlefile
    else if bytes_eq name (codes "caldav") then Some Caldav
    else if bytes_eq name (codes "carddav") then Some Carddav
    else None

abbrev pub kind_in : Setting → Option StorageKind
kind_in value = option_and_then kind_named (text_in value)

-- ---- collections

-- of the control characters U+0080 to U+009F, the byte behind the first
abbrev pub begins_control : List ℕ → Bool
begins_control [] = false
begins_control (b ∷ bs) = nat_le 128 b && nat_le b 159

-- a byte below 32, the byte 127, or U+0080 to U+009F: the characters of Unicode's Cc, in UTF-8
unfoldable pub has_control : List ℕ → Bool
has_control [] = false
has_control (b ∷ bs) = if nat_lt b 32 || (b == 127 || (b == 194 && begins_control bs)) then true else has_control bs

abbrev pub is_dots : List ℕ → Bool
is_dots name = bytes_eq name (codes ".") || bytes_eq name (codes "..")

-- 1 to 200 bytes, no `/` and no control character, and neither `.` nor `..`
abbrev pub is_collection : List ℕ → Bool
is_collection name = nat_lt 0 (length name) && (nat_le (length name) 200 && (not (list_any (λ b. b == 47) name) && (not (has_control name) && not (is_dots name))))

abbrev pub own_name : List ℕ → Option Wanted
own_name name = if is_collection name then Some (Named name name name) else None

abbrev pub wanted_named : List ℕ → Option Wanted
wanted_named text =
    if bytes_eq text (codes "from a") then Some FromA
    else if bytes_eq text (codes "from b") then Some FromB
    else own_name text

abbrev pub three_names : List ℕ → List ℕ → List ℕ → Option Wanted
three_names name a b = if is_collection name && (is_collection a && is_collection b) then Some (Named name a b) else None

abbrev pub wanted_listed : List (List ℕ) → Option Wanted
wanted_listed (name ∷ a ∷ b ∷ []) = three_names name a b
wanted_listed _ = None

abbrev pub wanted_of : Part → Option Wanted
wanted_of (part.Text text) = wanted_named text
wanted_of (part.Texts texts) = wanted_listed texts

abbrev pub collections_in : Setting → Option (Option (List Wanted))
collections_in setting.Null = Some None
collections_in (setting.List parts) = option_map (λ wanted. Some wanted) (all_found wanted_of parts)
collections_in _ = None

-- ---- commands

abbrev pub plain : Part → Option (List ℕ)
plain (part.Text text) = Some text
plain (part.Texts texts) = None

-- a list of texts
abbrev pub texts_in : Setting → Option (List (List ℕ))
texts_in (setting.List parts) = all_found plain parts
texts_in _ = None

abbrev pub is_one_text : List (List ℕ) → Bool
is_one_text (word ∷ text ∷ []) = bytes_eq word (codes "shell") || bytes_eq word (codes "prompt")
is_one_text _ = false

abbrev pub is_command : List (List ℕ) → Bool
is_command (word ∷ program ∷ arguments) = bytes_eq word (codes "command")
is_command _ = false

abbrev pub fetching : List (List ℕ) → Option (List (List ℕ))
fetching words = if is_command words || is_one_text words then Some words else None

-- how a text is fetched: by a command, by a line of the shell, or by asking for it
abbrev pub fetch_in : Setting → Option (List (List ℕ))
fetch_in value = option_and_then fetching (texts_in value)

-- ---- the rules of a pair

abbrev pub partial_named : List ℕ → Option Partial
partial_named name =
    if bytes_eq name (codes "error") then Some Error
    else if bytes_eq name (codes "ignore") then Some Ignore
    else if bytes_eq name (codes "revert") then Some Revert
    else None

abbrev pub partial_in : Setting → Option Partial
partial_in value = option_and_then partial_named (text_in value)

abbrev pub meta_named : List ℕ → Option MetaKey
meta_named name =
    if bytes_eq name (codes "displayname") then Some Displayname
    else if bytes_eq name (codes "color") then Some Color
    else None

abbrev pub meta_of : Part → Option MetaKey
meta_of (part.Text text) = meta_named text
meta_of (part.Texts texts) = None

abbrev pub no_metadata : List MetaKey
no_metadata = []

abbrev pub metadata_in : Setting → Option (List MetaKey)
metadata_in setting.Null = Some no_metadata
metadata_in (setting.List parts) = all_found meta_of parts
metadata_in _ = None

-- a conflict is told, and nobody wins
abbrev pub no_rule : Conflict
no_rule = record { rule = Null; command = [] }

abbrev pub rule_named : List ℕ → Option Conflict
rule_named name =
    if bytes_eq name (codes "a wins") then Some (record { rule = AWins; command = [] })
    else if bytes_eq name (codes "b wins") then Some (record { rule = BWins; command = [] })
    else None

abbrev pub is_part : List ℕ → Part → Bool
is_part word (part.Text text) = bytes_eq text word
is_part word (part.Texts texts) = false

abbrev pub ruled_by : List (List ℕ) → Conflict
ruled_by command = record { rule = Command; command = command }

-- `command`, a program and its arguments
abbrev pub rule_listed : List Part → Option Conflict
rule_listed [] = None
rule_listed (first ∷ command) = if is_part (codes "command") first && nat_lt 0 (length command) then option_map ruled_by (all_found plain command) else None

abbrev pub conflict_in : Setting → Option Conflict
conflict_in setting.Null = Some no_rule
conflict_in (setting.Text text) = rule_named text
conflict_in (setting.List parts) = rule_listed parts
conflict_in _ = None
