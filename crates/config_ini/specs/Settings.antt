-- The values of keys, as JSON (RFC 8259): null, truth values, texts, and lists of texts and of lists of texts (this project's own).
use Rattle.std.specs.Prelude.{ℕ, List, [], ◌∷◌, Option, Some, None, option_map, option_and_then, Result, Ok, Err, if◌then◌else◌}
use Rattle.std.specs.Str.{is_utf8}
use Rattle.serde_json.specs.Data.{Data, null, boolean, number, string, array, object, Items, no_items, item}
use Rattle.serde_json.specs.Read.{read}
use Rattle.config_ini.specs.declared.error.ConfigError.{ConfigError}
use Rattle.config_ini.specs.declared.error.ConfigError.TheVariants.{BadValue}
use Rattle.config_ini.specs.declared.kinds.Written.{Written}
use Rattle.config_ini.specs.declared.setting.Setting.{Setting}
use Rattle.config_ini.specs.declared.setting.Setting.TheVariants as setting
use Rattle.config_ini.specs.declared.setting.Part.{Part}
use Rattle.config_ini.specs.declared.setting.Part.TheVariants as part
use Rattle.config_ini.specs.declared.setting.Entry.{Entry}
use Rattle.config_ini.specs.Answers.{◌>>=◌}

-- what f finds in each item, if it finds something in all
unfoldable pub all_of : {A : Type 0} → (Data → Option A) → Items → Option (List A)
all_of f no_items = Some []
all_of f (item d ds) = option_and_then (λ x. option_map (λ xs. x ∷ xs) (all_of f ds)) (f d)

abbrev pub text_of : Data → Option (List ℕ)
text_of (string text) = Some text
text_of _ = None

abbrev pub inner_list : Items → Option Part
inner_list ds = option_map (λ texts. part.Texts texts) (all_of text_of ds)

abbrev pub part_of : Data → Option Part
part_of (string text) = Some (part.Text text)
part_of (array ds) = inner_list ds
part_of _ = None

abbrev pub list_by : Option (List Part) → Setting
list_by None = setting.Other
list_by (Some parts) = setting.List parts

abbrev pub list_of : Items → Setting
list_of ds = list_by (all_of part_of ds)

abbrev pub setting_of : Data → Setting
setting_of null = setting.Null
setting_of (boolean b) = setting.Truth b
setting_of (number n) = setting.Other
setting_of (string text) = setting.Text text
setting_of (array ds) = list_of ds
setting_of (object ms) = setting.Other

abbrev pub value_by : ℕ → Option Data → Result Setting ConfigError
value_by n None = Err (BadValue n)
value_by n (Some d) = Ok (setting_of d)

-- The value of a key in the line n. White space around a JSON text is part of it, so blanks need no trimming.
unfoldable pub value_of : ℕ → List ℕ → Result Setting ConfigError
value_of n text = if is_utf8 text then value_by n (read text) else Err (BadValue n)

-- a key with its value
abbrev pub entry_of : Written → Result Entry ConfigError
entry_of written = value_of written.number written.value >>= λ value. Ok (record { number = written.number; key = written.key; value = value })
