-- Escaped texts are read back.
use Rattle.std.proofs.Common.{◌≡◌, ℕ, Bool, true, false, not, ◌&&◌, cond, ◌==◌, List, [], ◌∷◌, ◌++◌, codes, refl, sym, ap, ◌∙◌, arith}
use Rattle.std.specs.Prelude.{Option, Some, None, option_map}
use Rattle.std.specs.List.{list_all}
use Rattle.std.proofs.lemmas.Bool.Decides.{nat_tests}
use Rattle.multistatus.specs.Texts.{line_ends, line_ends_after, referred, resolved_text, char_data, character_of, stripped}
use Rattle.multistatus.specs.Tokens.{is_text_byte}
use Rattle.dav_requests.specs.Bodies.{escaped, escaped_byte}
use Rattle.dav_requests.specs.Laws.{IsReadBack}

equal : (b c : ℕ) → (b == c) ≡ true → b ≡ c
equal b c h = grind (arith, nat_tests)

-- what holds of each form of an escaped byte holds of it
by_cases : (P : List ℕ → Type 0) (b : ℕ) (p q r s : Bool)
    → (p ≡ true → P (codes "&amp;")) → (q ≡ true → P (codes "&lt;")) → (r ≡ true → P (codes "&gt;")) → (s ≡ true → P (codes "&#13;"))
    → (p ≡ false → q ≡ false → s ≡ false → P (b ∷ []))
    → P (cond p (codes "&amp;") (cond q (codes "&lt;") (cond r (codes "&gt;") (cond s (codes "&#13;") (b ∷ [])))))
by_cases P b true q r s h1 h2 h3 h4 h5 = h1 refl
by_cases P b false true r s h1 h2 h3 h4 h5 = h2 refl
by_cases P b false false true s h1 h2 h3 h4 h5 = h3 refl
by_cases P b false false false true h1 h2 h3 h4 h5 = h4 refl
by_cases P b false false false false h1 h2 h3 h4 h5 = h5 refl refl refl

abbrev with_byte : ℕ → List ℕ → Option (List ℕ)
with_byte b rest = option_map (λ text. b ∷ text) (referred None rest)

amp_reads : (rest : List ℕ) → referred None (codes "&amp;" ++ rest) ≡ with_byte 38 rest
unfolding character_of
amp_reads rest = refl

lt_reads : (rest : List ℕ) → referred None (codes "&lt;" ++ rest) ≡ with_byte 60 rest
unfolding character_of
lt_reads rest = refl

gt_reads : (rest : List ℕ) → referred None (codes "&gt;" ++ rest) ≡ with_byte 62 rest
unfolding character_of
gt_reads rest = refl

cr_reads : (rest : List ℕ) → referred None (codes "&#13;" ++ rest) ≡ with_byte 13 rest
unfolding character_of stripped lib.Utf8.encode
cr_reads rest = refl

plain_reads : (b : ℕ) (rest : List ℕ) → (b == 38) ≡ false → referred None (b ∷ rest) ≡ with_byte b rest
plain_reads b rest e = ap (λ (t : Bool). cond t (referred (Some []) rest) (with_byte b rest)) e

byte_reads : (b : ℕ) (rest : List ℕ) → referred None (escaped_byte b ++ rest) ≡ with_byte b rest
byte_reads b rest =
    let same : (c : ℕ) → (b == c) ≡ true → with_byte c rest ≡ with_byte b rest = λ c e. ap (λ (x : ℕ). with_byte x rest) (sym (equal b c e)) in
    by_cases (λ form. referred None (form ++ rest) ≡ with_byte b rest) b (b == 38) (b == 60) (b == 62) (b == 13)
    (λ e. amp_reads rest ∙ same 38 e)
    (λ e. lt_reads rest ∙ same 60 e)
    (λ e. gt_reads rest ∙ same 62 e)
    (λ e. cr_reads rest ∙ same 13 e)
    (λ e1 e2 e4. plain_reads b rest e1)

all_read : (text : List ℕ) → referred None (escaped text) ≡ Some text
all_read [] = refl
all_read (b ∷ text) = byte_reads b (escaped text) ∙ ap (option_map (λ (t : List ℕ). b ∷ t)) (all_read text)

plain_ends : (b : ℕ) (rest : List ℕ) → (b == 13) ≡ false → line_ends_after false (b ∷ rest) ≡ b ∷ line_ends_after false rest
plain_ends b rest e = ap (λ (t : Bool). cond t (10 ∷ line_ends_after true rest) (b ∷ line_ends_after false rest)) e

byte_ends : (b : ℕ) (rest : List ℕ) → line_ends_after false (escaped_byte b ++ rest) ≡ escaped_byte b ++ line_ends_after false rest
byte_ends b rest =
    by_cases (λ form. line_ends_after false (form ++ rest) ≡ form ++ line_ends_after false rest) b (b == 38) (b == 60) (b == 62) (b == 13)
    (λ e. refl) (λ e. refl) (λ e. refl) (λ e. refl)
    (λ e1 e2 e4. plain_ends b rest e4)

all_end : (text : List ℕ) → line_ends_after false (escaped text) ≡ escaped text
all_end [] = refl
all_end (b ∷ text) = byte_ends b (escaped text) ∙ ap (λ (rest : List ℕ). escaped_byte b ++ rest) (all_end text)

plain_stays : (b : ℕ) (rest : List ℕ) → (b == 60) ≡ false → list_all is_text_byte (b ∷ rest) ≡ list_all is_text_byte rest
plain_stays b rest e = ap (λ (t : Bool). not t && list_all is_text_byte rest) e

byte_stays : (b : ℕ) (rest : List ℕ) → list_all is_text_byte (escaped_byte b ++ rest) ≡ list_all is_text_byte rest
byte_stays b rest =
    by_cases (λ form. list_all is_text_byte (form ++ rest) ≡ list_all is_text_byte rest) b (b == 38) (b == 60) (b == 62) (b == 13)
    (λ e. refl) (λ e. refl) (λ e. refl) (λ e. refl)
    (λ e1 e2 e4. plain_stays b rest e2)

all_stay : (text : List ℕ) → list_all is_text_byte (escaped text) ≡ true
all_stay [] = refl
all_stay (b ∷ text) = byte_stays b (escaped text) ∙ all_stay text

chars_read : (text : List ℕ) → char_data (escaped text) ≡ Some text
unfolding line_ends resolved_text
chars_read text = ap (referred None) (all_end text) ∙ all_read text

pub read_back : (text : List ℕ) → IsReadBack text
read_back text = record { stays = all_stay text; reads = chars_read text }
