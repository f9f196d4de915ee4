-- The sections so far, with one more line.
use Rattle.std.proofs.Common.{◌≡◌, ℕ, List, [], ◌∷◌, ◌++◌, Option, Some, None, Ok, Err, refl, sym, ◌∙◌, ap, append-nil, append_assoc}
use Rattle.std.specs.Prelude.{Result}
use Rattle.config_ini.specs.declared.error.ConfigError.{ConfigError}
use Rattle.config_ini.specs.declared.error.ConfigError.TheVariants.{BadLine}
use Rattle.config_ini.specs.declared.kinds.Title.{Title}
use Rattle.config_ini.specs.declared.kinds.Written.{Written}
use Rattle.config_ini.specs.declared.kinds.Logical.{Logical}
use Rattle.config_ini.specs.declared.kinds.Logical.TheVariants as logical
use Rattle.config_ini.specs.declared.setting.Entry.{Entry}
use Rattle.config_ini.specs.declared.sections.Section.{Section}
use Rattle.config_ini.specs.Answers.{◌>>=◌}
use Rattle.config_ini.specs.Settings.{entry_of}
use Rattle.config_ini.specs.Sections.{and_then, sections_from, sections_of}

abbrev Sections : Type 0
Sections = Result (List Section) ConfigError

-- what the sections so far and those to come are together
abbrev pub together : List Section → Sections → Sections
together done found = found >>= λ later. Ok (done ++ later)

opened : (at : Option Section) (n : ℕ) (title : Title) (rest : List Logical) → sections_from at (logical.Section n title ∷ rest) ≡ (sections_from (Some (record { title = title; entries = [] })) rest >>= λ later. Ok (and_then at later))
unfolding sections_from
opened None n title rest = refl
opened (Some section) n title rest = refl

together_by : (done : List Section) (at : Option Section) (found : Sections) → together (done ++ and_then at []) found ≡ together done (found >>= λ later. Ok (and_then at later))
together_by done at (Err e) = refl
together_by done None (Ok later) = ap (λ (ss : List Section). Ok (ss ++ later)) (append-nil done)
together_by done (Some section) (Ok later) = ap (λ (ss : List Section). Ok ss) (append_assoc done (section ∷ []) later)

pub section_next : (done next : List Section) (entries : List Entry) (at : Option Section) (n : ℕ) (title : Title) (rest : List Logical) → next ≡ done ++ and_then at [] → entries ≡ []
    → together next (sections_from (Some (record { title = title; entries = entries })) rest) ≡ together done (sections_from at (logical.Section n title ∷ rest))
section_next done next entries at n title rest is none =
    ap (λ (ss : List Section). together ss (sections_from (Some (record { title = title; entries = entries })) rest)) is
    ∙ ap (λ (es : List Entry). together (done ++ and_then at []) (sections_from (Some (record { title = title; entries = es })) rest)) none
    ∙ together_by done at (sections_from (Some (record { title = title; entries = [] })) rest)
    ∙ ap (together done) (sym (opened at n title rest))

key_is : (section : Section) (w : Written) (rest : List Logical) → sections_from (Some section) (logical.Key w ∷ rest) ≡ (entry_of w >>= λ entry. sections_from (Some (record { title = section.title; entries = section.entries ++ entry ∷ [] })) rest)
unfolding sections_from
key_is section w rest = refl

pub key_next : (done : List Section) (at : Option Section) (section : Section) (entry : Entry) (entries : List Entry) (w : Written) (rest : List Logical) → at ≡ Some section → entry_of w ≡ Ok entry → entries ≡ section.entries ++ entry ∷ []
    → together done (sections_from (Some (record { title = section.title; entries = entries })) rest) ≡ together done (sections_from at (logical.Key w ∷ rest))
key_next done at section entry entries w rest some read is =
    ap (λ (es : List Entry). together done (sections_from (Some (record { title = section.title; entries = es })) rest)) is
    ∙ ap (λ (r : Result Entry ConfigError). together done (r >>= λ found. sections_from (Some (record { title = section.title; entries = section.entries ++ found ∷ [] })) rest)) (sym read)
    ∙ ap (together done) (sym (key_is section w rest))
    ∙ ap (λ (o : Option Section). together done (sections_from o (logical.Key w ∷ rest))) (sym some)

pub key_bad : (done : List Section) (at : Option Section) (section : Section) (e : ConfigError) (w : Written) (rest : List Logical) → at ≡ Some section → entry_of w ≡ Err e
    → together done (sections_from at (logical.Key w ∷ rest)) ≡ Err e
key_bad done at section e w rest some bad =
    ap (λ (o : Option Section). together done (sections_from o (logical.Key w ∷ rest))) some
    ∙ ap (together done) (key_is section w rest)
    ∙ ap (λ (r : Result Entry ConfigError). together done (r >>= λ found. sections_from (Some (record { title = section.title; entries = section.entries ++ found ∷ [] })) rest)) bad

pub key_alone : (done : List Section) (at : Option Section) (w : Written) (rest : List Logical) → at ≡ None → together done (sections_from at (logical.Key w ∷ rest)) ≡ Err (BadLine w.number)
unfolding sections_from
key_alone done at w rest none = ap (λ (o : Option Section). together done (sections_from o (logical.Key w ∷ rest))) none

pub bad_next : (done : List Section) (at : Option Section) (n : ℕ) (rest : List Logical) → together done (sections_from at (logical.Bad n ∷ rest)) ≡ Err (BadLine n)
unfolding sections_from
bad_next done None n rest = refl
bad_next done (Some section) n rest = refl

together_nil : (found : Sections) → together [] found ≡ found
together_nil (Err e) = refl
together_nil (Ok later) = refl

pub group_first : (done : List Section) (lines all : List Logical) → done ≡ [] → lines ≡ all → together done (sections_from None lines) ≡ sections_of all
group_first done lines all none same =
    ap (λ (ss : List Section). together ss (sections_from None lines)) none ∙ together_nil (sections_from None lines) ∙ ap (sections_from None) same

pub group_last : (done all : List Section) (at : Option Section) (lines : List Logical) (whole : Sections) → lines ≡ [] → all ≡ done ++ and_then at [] → together done (sections_from at lines) ≡ whole → whole ≡ Ok all
unfolding sections_from
group_last done all None lines whole none is on =
    sym on ∙ ap (λ (ls : List Logical). together done (sections_from None ls)) none ∙ ap (λ (ss : List Section). Ok ss) (sym is)
group_last done all (Some section) lines whole none is on =
    sym on ∙ ap (λ (ls : List Logical). together done (sections_from (Some section) ls)) none ∙ ap (λ (ss : List Section). Ok ss) (sym is)
