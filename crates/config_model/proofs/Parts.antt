-- What the sections so far say, with what the later ones say.
use Rattle.std.proofs.Common.{◌≡◌, ℕ, ◌+◌, ◌<◌, ◌≤◌, List, [], ◌∷◌, ◌++◌, length, drop, get_or, Option, Some, None, Ok, Err, refl, sym, ◌∙◌, ap, append-nil, append_assoc}
use Rattle.std.specs.Prelude.{Result}
use Rattle.std.specs.Option.{option_or}
use Rattle.std.proofs.Math.ListN.{drop_of_length-le}
use Rattle.config_ini.specs.declared.error.ConfigError.{ConfigError}
use Rattle.config_ini.specs.declared.sections.Section.{Section}
use Rattle.config_ini.specs.Answers.{◌>>=◌}
use Rattle.config_model.specs.declared.config.PairConf.{PairConf}
use Rattle.config_model.specs.declared.config.StorageConf.{StorageConf}
use Rattle.config_model.specs.declared.reading.Parts.{Parts}
use Rattle.config_model.proofs.Rests.{rest_is}
use Rattle.config_model.specs.Reading.{no_parts, joined, part_of, parts_of}

abbrev pub together : Parts → Result Parts ConfigError → Result Parts ConfigError
together parts found = found >>= λ later. Ok (joined parts later)

or_assoc : (o p q : Option (List ℕ)) → option_or (option_or o p) q ≡ option_or o (option_or p q)
or_assoc None p q = refl
or_assoc (Some x) p q = refl

or_none : (o : Option (List ℕ)) → option_or o None ≡ o
or_none None = refl
or_none (Some x) = refl

joined_assoc : (p q r : Parts) → joined (joined p q) r ≡ joined p (joined q r)
joined_assoc p q r =
    ap (λ (o : Option (List ℕ)). let all : Parts = record { status_path = o; pairs = (p.pairs ++ q.pairs) ++ r.pairs; storages = (p.storages ++ q.storages) ++ r.storages } in all) (or_assoc p.status_path q.status_path r.status_path)
    ∙ ap (λ (ps : List PairConf). let all : Parts = record { status_path = option_or p.status_path (option_or q.status_path r.status_path); pairs = ps; storages = (p.storages ++ q.storages) ++ r.storages } in all) (append_assoc p.pairs q.pairs r.pairs)
    ∙ ap (λ (ss : List StorageConf). let all : Parts = record { status_path = option_or p.status_path (option_or q.status_path r.status_path); pairs = p.pairs ++ (q.pairs ++ r.pairs); storages = ss } in all) (append_assoc p.storages q.storages r.storages)

joined_none : (p : Parts) → joined p no_parts ≡ p
joined_none p =
    ap (λ (o : Option (List ℕ)). let all : Parts = record { status_path = o; pairs = p.pairs ++ []; storages = p.storages ++ [] } in all) (or_none p.status_path)
    ∙ ap (λ (ps : List PairConf). let all : Parts = record { status_path = p.status_path; pairs = ps; storages = p.storages ++ [] } in all) (append-nil p.pairs)
    ∙ ap (λ (ss : List StorageConf). let all : Parts = record { status_path = p.status_path; pairs = p.pairs; storages = ss } in all) (append-nil p.storages)

none_joined : (p : Parts) → joined no_parts p ≡ p
none_joined p = refl

next_is : (all : List Section) (section : Section) (rest : List Section) → parts_of all (section ∷ rest) ≡ (part_of all section >>= λ part. parts_of all rest >>= λ later. Ok (joined part later))
unfolding parts_of
next_is all section rest = refl

together_next : (p q : Parts) (found : Result Parts ConfigError) → together (joined p q) found ≡ together p (together q found)
together_next p q (Ok later) = ap (λ (x : Parts). Ok x) (joined_assoc p q later)
together_next p q (Err e) = refl

pub part_read : (all : List Section) (parts next part : Parts) (sections : List Section) (i : ℕ) (section : Section) → i < length sections → section ≡ get_or sections i section → next ≡ joined parts part → part_of all section ≡ Ok part
    → together parts (parts_of all (drop i sections)) ≡ parts_of all sections → together next (parts_of all (drop (i + 1) sections)) ≡ parts_of all sections
part_read all parts next part sections i section within at is read on =
    ap (λ (p : Parts). together p (parts_of all (drop (i + 1) sections))) is
    ∙ together_next parts part (parts_of all (drop (i + 1) sections))
    ∙ ap (λ (r : Result Parts ConfigError). together parts (r >>= λ p. parts_of all (drop (i + 1) sections) >>= λ later. Ok (joined p later))) (sym read)
    ∙ ap (together parts) (sym (next_is all section (drop (i + 1) sections)))
    ∙ ap (λ (l : List Section). together parts (parts_of all l)) (sym (rest_is sections i section within at))
    ∙ on

pub part_refused : (all : List Section) (parts : Parts) (sections : List Section) (i : ℕ) (section : Section) (e : ConfigError) → i < length sections → section ≡ get_or sections i section → part_of all section ≡ Err e
    → together parts (parts_of all (drop i sections)) ≡ parts_of all sections → parts_of all sections ≡ Err e
part_refused all parts sections i section e within at bad on =
    sym on
    ∙ ap (λ (l : List Section). together parts (parts_of all l)) (rest_is sections i section within at)
    ∙ ap (together parts) (next_is all section (drop (i + 1) sections))
    ∙ ap (λ (r : Result Parts ConfigError). together parts (r >>= λ p. parts_of all (drop (i + 1) sections) >>= λ later. Ok (joined p later))) bad

together_none : (found : Result Parts ConfigError) → together no_parts found ≡ found
together_none (Ok later) = refl
together_none (Err e) = refl

pub parts_first : (all : List Section) (parts : Parts) (sections : List Section) → parts ≡ no_parts → together parts (parts_of all sections) ≡ parts_of all sections
parts_first all parts sections is = ap (λ (p : Parts). together p (parts_of all sections)) is ∙ together_none (parts_of all sections)

pub parts_last : (all : List Section) (parts : Parts) (sections : List Section) (i : ℕ) → length sections ≤ i → together parts (parts_of all (drop i sections)) ≡ parts_of all sections → parts_of all sections ≡ Ok parts
unfolding parts_of
parts_last all parts sections i over on =
    sym on ∙ ap (λ (l : List Section). together parts (parts_of all l)) (drop_of_length-le sections over) ∙ ap (λ (p : Parts). Ok p) (joined_none parts)
