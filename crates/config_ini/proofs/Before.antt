-- The first flaw, line by line.
use Rattle.std.proofs.Common.{◌≡◌, ℕ, Bool, true, false, cond, not, List, [], ◌∷◌, Option, Some, None, refl, sym, ◌∙◌, ap}
use Rattle.std.specs.Str.{bytes_eq}
use Rattle.std.specs.Ordering.{nat_cmp}
use Rattle.std.specs.Cmp.Lexicographic.{slice_cmp}
use Rattle.std.specs.BTreeMap.{is_at}
use Rattle.std.proofs.lemmas.Map.Text.{is_eq-slice_cmp}
use Rattle.config_ini.specs.declared.error.ConfigError.TheVariants.{BadLine, Twice}
use Rattle.config_ini.specs.declared.kinds.Title.{Title}
use Rattle.config_ini.specs.declared.kinds.Written.{Written}
use Rattle.config_ini.specs.declared.kinds.Logical.{Logical}
use Rattle.config_ini.specs.declared.kinds.Logical.TheVariants as logical
use Rattle.config_ini.specs.Flaws.{section_name, Before, none_before, also, first_flaw}
use Rattle.config_ini.specs.Repeats.{has}

-- a text is put into a set
pub sees_also : (text copy : List ℕ) (old new : List (List ℕ)) → copy ≡ text → ((q : List ℕ) → has new q ≡ cond (is_at (slice_cmp nat_cmp copy) q) true (has old q)) → has new ≡ also text (has old)
sees_also text copy old new is h =
    let each : (q : List ℕ) → has new q ≡ also text (has old) q = λ q. h q ∙ ap (λ (b : Bool). cond b true (has old q)) (is_eq-slice_cmp copy q) ∙ ap (λ (t : List ℕ). cond (bytes_eq t q) true (has old q)) is in
    λ i q. each q i

pub none_seen : (keys : List (List ℕ)) → keys ≡ [] → has keys ≡ none_before
none_seen keys h = ap has h

pub was_first : (b seen : Bool) → b ≡ not seen → b ≡ true → seen ≡ false
was_first b true e h = cc
was_first b false e h = refl

pub was_seen : (b seen : Bool) → b ≡ not seen → b ≡ false → seen ≡ true
was_seen b true e h = refl
was_seen b false e h = cc

section_is : (sections keys : Before) (at : Option (List ℕ)) (n : ℕ) (title : Title) (rest : List Logical) (b : Bool) → sections (section_name title) ≡ b
    → first_flaw sections at keys (logical.Section n title ∷ rest) ≡ cond b (Some (Twice (section_name title) [])) (first_flaw (also (section_name title) sections) (Some (section_name title)) none_before rest)
unfolding first_flaw
section_is sections keys None n title rest b h = ap (λ (t : Bool). cond t (Some (Twice (section_name title) [])) (first_flaw (also (section_name title) sections) (Some (section_name title)) none_before rest)) h
section_is sections keys (Some at) n title rest b h = ap (λ (t : Bool). cond t (Some (Twice (section_name title) [])) (first_flaw (also (section_name title) sections) (Some (section_name title)) none_before rest)) h

pub section_first : (sections keys new fresh : Before) (at : Option (List ℕ)) (n : ℕ) (title : Title) (name : List ℕ) (rest : List Logical) → name ≡ section_name title → sections name ≡ false → new ≡ also name sections → fresh ≡ none_before
    → first_flaw new (Some name) fresh rest ≡ first_flaw sections at keys (logical.Section n title ∷ rest)
section_first sections keys new fresh at n title name rest is first sees none =
    ap (λ (s : Before). first_flaw s (Some name) fresh rest) sees
    ∙ ap (λ (k : Before). first_flaw (also name sections) (Some name) k rest) none
    ∙ ap (λ (t : List ℕ). first_flaw (also t sections) (Some t) none_before rest) is
    ∙ sym (section_is sections keys at n title rest false (ap sections (sym is) ∙ first))

pub section_twice : (sections keys : Before) (at : Option (List ℕ)) (n : ℕ) (title : Title) (name : List ℕ) (rest : List Logical) → name ≡ section_name title → sections name ≡ true
    → first_flaw sections at keys (logical.Section n title ∷ rest) ≡ Some (Twice name [])
section_twice sections keys at n title name rest is again =
    section_is sections keys at n title rest true (ap sections (sym is) ∙ again) ∙ ap (λ (t : List ℕ). Some (Twice t [])) (sym is)

key_is : (sections keys : Before) (section : List ℕ) (w : Written) (rest : List Logical) (b : Bool) → keys w.key.name ≡ b
    → first_flaw sections (Some section) keys (logical.Key w ∷ rest) ≡ cond b (Some (Twice section w.key.name)) (first_flaw sections (Some section) (also w.key.name keys) rest)
unfolding first_flaw
key_is sections keys section w rest b h = ap (λ (t : Bool). cond t (Some (Twice section w.key.name)) (first_flaw sections (Some section) (also w.key.name keys) rest)) h

pub key_first : (sections keys new : Before) (at : Option (List ℕ)) (section : List ℕ) (w : Written) (rest : List Logical) → at ≡ Some section → keys w.key.name ≡ false → new ≡ also w.key.name keys
    → first_flaw sections (Some section) new rest ≡ first_flaw sections at keys (logical.Key w ∷ rest)
key_first sections keys new at section w rest is first sees =
    ap (λ (k : Before). first_flaw sections (Some section) k rest) sees
    ∙ sym (key_is sections keys section w rest false first)
    ∙ ap (λ (o : Option (List ℕ)). first_flaw sections o keys (logical.Key w ∷ rest)) (sym is)

pub key_twice : (sections keys : Before) (at : Option (List ℕ)) (section : List ℕ) (w : Written) (rest : List Logical) → at ≡ Some section → keys w.key.name ≡ true
    → first_flaw sections at keys (logical.Key w ∷ rest) ≡ Some (Twice section w.key.name)
key_twice sections keys at section w rest is again =
    ap (λ (o : Option (List ℕ)). first_flaw sections o keys (logical.Key w ∷ rest)) is ∙ key_is sections keys section w rest true again

pub key_loose : (sections keys : Before) (at : Option (List ℕ)) (w : Written) (rest : List Logical) → at ≡ None → first_flaw sections at keys (logical.Key w ∷ rest) ≡ Some (BadLine w.number)
unfolding first_flaw
key_loose sections keys at w rest is = ap (λ (o : Option (List ℕ)). first_flaw sections o keys (logical.Key w ∷ rest)) is

pub bad_line : (sections keys : Before) (at : Option (List ℕ)) (n : ℕ) (rest : List Logical) → first_flaw sections at keys (logical.Bad n ∷ rest) ≡ Some (BadLine n)
unfolding first_flaw
bad_line sections keys None n rest = refl
bad_line sections keys (Some at) n rest = refl

pub no_lines : (sections keys : Before) (at : Option (List ℕ)) → first_flaw sections at keys [] ≡ None
unfolding first_flaw
no_lines sections keys None = refl
no_lines sections keys (Some at) = refl
