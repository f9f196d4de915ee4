-- What a value is read as.
use Rattle.std.proofs.Common.{◌≡◌, ℕ, true, false, cond, List, Some, None, Ok, Err, refl, sym, ap, ◌∙◌}
use Rattle.std.specs.Str.{IsUtf8, is_utf8}
use Rattle.std.proofs.lemmas.Str.{is_utf8-from_IsUtf8, IsUtf8-from_is_utf8}
use Rattle.serde_json.specs.Data.{Data}
use Rattle.serde_json.specs.Read.{read}
use Rattle.config_ini.specs.declared.error.ConfigError.TheVariants.{BadValue}
use Rattle.config_ini.specs.declared.setting.Setting.{Setting}
use Rattle.config_ini.specs.Settings.{setting_of, value_by, value_of}

pub value_read : (n : ℕ) (bytes : List ℕ) (d : Data) (setting : Setting) → IsUtf8 bytes → read bytes ≡ Some d → setting ≡ setting_of d → value_of n bytes ≡ Ok setting
unfolding value_of
value_read n bytes d setting utf8 reads is =
    ap (λ b. cond b (value_by n (read bytes)) (Err (BadValue n))) (is_utf8-from_IsUtf8 bytes utf8)
    ∙ ap (value_by n) reads
    ∙ ap (λ (s : Setting). Ok s) (sym is)

pub value_unread : (n : ℕ) (bytes : List ℕ) → (IsUtf8 bytes → read bytes ≡ None) → value_of n bytes ≡ Err (BadValue n)
unfolding value_of
value_unread n bytes h =
    elim (is_utf8 bytes) as (λ b. is_utf8 bytes ≡ b → cond b (value_by n (read bytes)) (Err (BadValue n)) ≡ Err (BadValue n)) [
      | true ↦ λ e. ap (value_by n) (h (IsUtf8-from_is_utf8 bytes e))
      | false ↦ λ e. refl
    ] refl
