-- The refusals that come before any value is read, in their order.
use Rattle.std.proofs.Common.{◌≡◌, ℕ, ◌<◌, ◌≤◌, Bool, true, false, cond, nat_lt, List, length, Option, Some, None, Err, refl, sym, ap, ◌∙◌, arith}
use Rattle.std.specs.Prelude.{Result}
use Rattle.std.specs.Str.{IsUtf8, is_utf8}
use Rattle.std.proofs.lemmas.Str.{is_utf8-from_IsUtf8, IsUtf8-from_is_utf8}
use Rattle.std.proofs.lemmas.Bool.Decides.{nat_tests}
use Rattle.config_ini.specs.declared.error.ConfigError.{ConfigError}
use Rattle.config_ini.specs.declared.error.ConfigError.TheVariants.{TooLong, NotUtf8}
use Rattle.config_ini.specs.declared.kinds.Logical.{Logical}
use Rattle.config_ini.specs.declared.sections.Section.{Section}
use Rattle.config_ini.specs.Logical.{logical_lines}
use Rattle.config_ini.specs.Flaws.{flaw_of}
use Rattle.config_ini.specs.Sections.{sections_of, unless_flawed, sections_in, sections_read}

abbrev Sections : Type 0
Sections = Result (List Section) ConfigError

is_long : (n : ℕ) → 1048576 < n → nat_lt 1048576 n ≡ true
is_long n h = grind (arith, nat_tests)

is_within : (n : ℕ) → n ≤ 1048576 → nat_lt 1048576 n ≡ false
is_within n h = grind (arith, nat_tests)

pub too_long : (bytes : List ℕ) → 1048576 < length bytes → sections_read bytes ≡ Err TooLong
unfolding sections_read
too_long bytes h = ap (λ (b : Bool). cond {A = Sections} b (Err TooLong) (cond (is_utf8 bytes) (sections_in bytes) (Err NotUtf8))) (is_long (length bytes) h)

pub within : (bytes : List ℕ) → length bytes ≤ 1048576 → IsUtf8 bytes → sections_read bytes ≡ sections_in bytes
unfolding sections_read
within bytes h utf8 =
    ap (λ (b : Bool). cond {A = Sections} b (Err TooLong) (cond (is_utf8 bytes) (sections_in bytes) (Err NotUtf8))) (is_within (length bytes) h)
    ∙ ap (λ (b : Bool). cond {A = Sections} b (sections_in bytes) (Err NotUtf8)) (is_utf8-from_IsUtf8 bytes utf8)

unread_by : (bytes : List ℕ) (b : Bool) → is_utf8 bytes ≡ b → (IsUtf8 bytes → ⊥) → cond {A = Sections} b (sections_in bytes) (Err NotUtf8) ≡ Err NotUtf8
unread_by bytes true e none = absurd (none (IsUtf8-from_is_utf8 bytes e))
unread_by bytes false e none = refl

pub not_utf8 : (bytes : List ℕ) → length bytes ≤ 1048576 → (IsUtf8 bytes → ⊥) → sections_read bytes ≡ Err NotUtf8
unfolding sections_read
not_utf8 bytes h none =
    ap (λ (b : Bool). cond {A = Sections} b (Err TooLong) (cond (is_utf8 bytes) (sections_in bytes) (Err NotUtf8))) (is_within (length bytes) h)
    ∙ unread_by bytes (is_utf8 bytes) refl none

pub unflawed : (text : List ℕ) (lines seen : List Logical) → lines ≡ logical_lines text → seen ≡ lines → flaw_of seen ≡ None → sections_in text ≡ sections_of lines
unflawed text lines seen is same none =
    ap (λ (ls : List Logical). unless_flawed (flaw_of ls) (sections_of ls)) (sym is)
    ∙ ap (λ (o : Option ConfigError). unless_flawed o (sections_of lines)) (ap flaw_of (sym same) ∙ none)

pub flawed : (text : List ℕ) (lines seen : List Logical) (e : ConfigError) → lines ≡ logical_lines text → seen ≡ lines → flaw_of seen ≡ Some e → sections_in text ≡ Err e
flawed text lines seen e is same some =
    ap (λ (ls : List Logical). unless_flawed (flaw_of ls) (sections_of ls)) (sym is)
    ∙ ap (λ (o : Option ConfigError). unless_flawed o (sections_of lines)) (ap flaw_of (sym same) ∙ some)
