-- Line ends and references, piece by piece: lemmas on specs/Texts.antt
use Rattle.std.proofs.Common.{◌≡◌, refl, ℕ, ◌+◌, ◌*◌, ◌<◌, ◌≤◌, suc, Bool, true, false, cond, eqb, ltb, List, [], ◌∷◌, ◌++◌, length, drop, get_or, Option, Some, None, sym, ◌∙◌, ap, subst, arith, append_assoc, add-one, drop-cons}
use Rattle.std.specs.Option.{option_map}
use Rattle.std.specs.Char.{digit_value}
use Rattle.std.proofs.Math.Nat.{mul-le-mul_left}
use Rattle.std.proofs.lemmas.List.{append-nil}
use borrow.Author.Tests.{tests, lt-ltb, le-ltb, eqb-true}
use Rattle.multistatus.specs.Steps.{◌>>=◌}
use Rattle.multistatus.specs.Texts.{stripped, cut, line_ends_after, character_of, referred, is_xml_char, bytes_of_char, number_behind, numbered}

-- no byte is this one
abbrev pub IsFree : ℕ → List ℕ → Type 0
IsFree m [] = Unit {0}
IsFree m (b ∷ bytes) = (eqb b m ≡ false) × IsFree m bytes

-- how the first place of one byte is found
cut_one : (m b : ℕ) (bytes : List ℕ) (test : Bool) → eqb b m ≡ test
    → cut (m ∷ []) (b ∷ bytes) ≡ cond test (Some ([], bytes)) (option_map (λ (parts : List ℕ × List ℕ). (b ∷ parts.0, parts.1)) (cut (m ∷ []) bytes))
unfolding cut stripped
cut_one m b bytes true h = rw h refl
cut_one m b bytes false h = rw h refl

mapped_some : {A B : Type 0} (f : A → B) (o : Option A) (y : B) → option_map f o ≡ Some y → (x : A) × (o ≡ Some x) × (f x ≡ y)
mapped_some f None y h = cc
mapped_some f (Some x) y h = (x, refl, cc)

mapped_none : {A B : Type 0} (f : A → B) (o : Option A) → option_map f o ≡ None → o ≡ None
mapped_none f None h = refl
mapped_none f (Some x) h = cc

-- what a cut at one byte found: the byte, and none before it
pub record IsCutAt (m : ℕ) (bytes before after : List ℕ) : Type 0 where
  pub whole : bytes ≡ before ++ m ∷ after
  pub free : IsFree m before

abbrev Parts : Type 0
Parts = List ℕ × List ℕ

is_cut_at_by : (m b : ℕ) (bytes before after : List ℕ)
    → ((p q : List ℕ) → cut (m ∷ []) bytes ≡ Some (p, q) → IsCutAt m bytes p q)
    → (test : Bool) → eqb b m ≡ test
    → cond {A = Option Parts} test (Some ([], bytes)) (option_map (λ (parts : Parts). (b ∷ parts.0, parts.1)) (cut (m ∷ []) bytes)) ≡ Some (before, after)
    → IsCutAt m (b ∷ bytes) before after
is_cut_at_by m b bytes before after more true e h =
    let pair : ([], bytes) ≡ (before, after) = cc in
    let first : [] ≡ before = ap (λ (p : Parts). p.0) pair in
    let second : bytes ≡ after = ap (λ (p : Parts). p.1) pair in
    let same : b ≡ m = eqb-true b m e in
    record {
      whole = ap (λ c. c ∷ bytes) same ∙ ap (λ rest. m ∷ rest) second ∙ ap (λ front. front ++ m ∷ after) first;
      free = subst (IsFree m) first tt;
    }
is_cut_at_by m b bytes before after more false e h =
    let found = mapped_some (λ (parts : Parts). (b ∷ parts.0, parts.1)) (cut (m ∷ []) bytes) (before, after) h in
    let first : b ∷ found.0.0 ≡ before = ap (λ (p : Parts). p.0) found.2 in
    let second : found.0.1 ≡ after = ap (λ (p : Parts). p.1) found.2 in
    let inner = more found.0.0 found.0.1 found.1 in
    record {
      whole = ap (λ rest. b ∷ rest) inner.whole ∙ ap (λ rest. b ∷ (found.0.0 ++ m ∷ rest)) second ∙ ap (λ front. front ++ m ∷ after) first;
      free = subst (IsFree m) first (e, inner.free);
    }

pub is_cut_at : (m : ℕ) (bytes before after : List ℕ) → cut (m ∷ []) bytes ≡ Some (before, after) → IsCutAt m bytes before after
unfolding cut stripped
is_cut_at m [] before after h = cc
is_cut_at m (b ∷ bytes) before after h =
    is_cut_at_by m b bytes before after (λ p q. is_cut_at m bytes p q) (eqb b m) refl (sym (cut_one m b bytes (eqb b m) refl) ∙ h)

free_by : (m b : ℕ) (bytes : List ℕ) → (cut (m ∷ []) bytes ≡ None → IsFree m bytes) → (test : Bool) → eqb b m ≡ test
    → cond {A = Option Parts} test (Some ([], bytes)) (option_map (λ (parts : Parts). (b ∷ parts.0, parts.1)) (cut (m ∷ []) bytes)) ≡ None
    → IsFree m (b ∷ bytes)
free_by m b bytes more true e h = cc
free_by m b bytes more false e h = (e, more (mapped_none (λ (parts : Parts). (b ∷ parts.0, parts.1)) (cut (m ∷ []) bytes) h))

-- where a cut at one byte finds nothing, no byte is that one
pub is_free : (m : ℕ) (bytes : List ℕ) → cut (m ∷ []) bytes ≡ None → IsFree m bytes
is_free m [] h = tt
is_free m (b ∷ bytes) h = free_by m b bytes (is_free m bytes) (eqb b m) refl (sym (cut_one m b bytes (eqb b m) refl) ∙ h)

line_ends_free : (before more : List ℕ) → IsFree 13 before → line_ends_after false (before ++ more) ≡ before ++ line_ends_after false more
line_ends_free [] more free = refl
line_ends_free (b ∷ before) more free = rw free.0 (ap (λ rest. b ∷ rest) (line_ends_free before more free.1))

-- line ends up to a CR and behind it
pub line_ends-cut : (bytes before after : List ℕ) → cut (13 ∷ []) bytes ≡ Some (before, after)
    → line_ends_after false bytes ≡ before ++ 10 ∷ line_ends_after true after
line_ends-cut bytes before after h =
    let found = is_cut_at 13 bytes before after h in
    ap (line_ends_after false) found.whole ∙ line_ends_free before (13 ∷ after) found.free

pub line_ends-none : (bytes : List ℕ) → cut (13 ∷ []) bytes ≡ None → line_ends_after false bytes ≡ bytes
line_ends-none bytes h =
    ap (line_ends_after false) (sym (append-nil bytes)) ∙ line_ends_free bytes [] (is_free 13 bytes h) ∙ append-nil bytes

-- a LF behind a CR is passed over
pub line_ends-line_feed : (bytes rest : List ℕ) → bytes ≡ 10 ∷ rest → line_ends_after true bytes ≡ line_ends_after false rest
line_ends-line_feed bytes rest h = ap (line_ends_after true) h

other_than_feed : (b : ℕ) (bytes : List ℕ) → eqb b 10 ≡ false → line_ends_after true (b ∷ bytes) ≡ line_ends_after false (b ∷ bytes)
other_than_feed b bytes h = rw h refl

pub line_ends-other : (bytes : List ℕ) → stripped (10 ∷ []) bytes ≡ None → line_ends_after true bytes ≡ line_ends_after false bytes
unfolding stripped
line_ends-other [] h = refl
line_ends-other (b ∷ bytes) h = other_than_feed b bytes (not_chosen (eqb b 10) (Some bytes) bytes refl h)
  where
    not_chosen : (t : Bool) (o : Option (List ℕ)) (x : List ℕ) → o ≡ Some x → cond t o None ≡ None → t ≡ false
    not_chosen true o x e h = cc
    not_chosen false o x e h = refl

mapped_twice : (b : ℕ) (front : List ℕ) (o : Option (List ℕ))
    → option_map (λ (text : List ℕ). b ∷ text) (option_map (λ (text : List ℕ). front ++ text) o) ≡ option_map (λ (text : List ℕ). (b ∷ front) ++ text) o
mapped_twice b front None = refl
mapped_twice b front (Some text) = refl

mapped_empty : (o : Option (List ℕ)) → o ≡ option_map (λ (text : List ℕ). [] ++ text) o
mapped_empty None = refl
mapped_empty (Some text) = refl

referred_free : (before more : List ℕ) → IsFree 38 before → referred None (before ++ more) ≡ option_map (λ (text : List ℕ). before ++ text) (referred None more)
referred_free [] more free = mapped_empty (referred None more)
referred_free (b ∷ before) more free =
    rw free.0 (ap (option_map (λ (text : List ℕ). b ∷ text)) (referred_free before more free.1) ∙ mapped_twice b before (referred None more))

named_free : (name before more : List ℕ) → IsFree 59 before → referred (Some name) (before ++ more) ≡ referred (Some (name ++ before)) more
named_free name [] more free = ap (λ n. referred (Some n) more) (sym (append-nil name))
named_free name (b ∷ before) more free =
    rw free.0 (named_free (name ++ b ∷ []) before more free.1 ∙ ap (λ n. referred (Some n) more) (append_assoc name (b ∷ []) before))

pub referred-none : (bytes : List ℕ) → cut (38 ∷ []) bytes ≡ None → referred None bytes ≡ Some bytes
referred-none bytes h =
    ap (referred None) (sym (append-nil bytes)) ∙ referred_free bytes [] (is_free 38 bytes h) ∙ ap Some (append-nil bytes)

-- text up to a reference and behind it
pub referred-cut : (bytes before after : List ℕ) → cut (38 ∷ []) bytes ≡ Some (before, after)
    → referred None bytes ≡ option_map (λ (text : List ℕ). before ++ text) (referred (Some []) after)
referred-cut bytes before after h =
    let found = is_cut_at 38 bytes before after h in
    ap (referred None) found.whole ∙ referred_free before (38 ∷ after) found.free

pub named-none : (bytes : List ℕ) → cut (59 ∷ []) bytes ≡ None → referred (Some []) bytes ≡ None
named-none bytes h =
    ap (referred (Some [])) (sym (append-nil bytes)) ∙ named_free [] bytes [] (is_free 59 bytes h)

pub named-cut : (bytes name after : List ℕ) → cut (59 ∷ []) bytes ≡ Some (name, after)
    → referred (Some []) bytes ≡ (character_of name >>= λ char. option_map (λ (text : List ℕ). char ++ text) (referred None after))
named-cut bytes name after h =
    let found = is_cut_at 59 bytes name after h in
    ap (referred (Some [])) found.whole ∙ named_free [] name (59 ∷ after) found.free

-- the character that digits behind a number stand for
abbrev pub char_behind : ℕ → ℕ → List ℕ → Option (List ℕ)
char_behind base n digits = number_behind base n digits >>= bytes_of_char

not_char : (n : ℕ) → 0x10_FFFF < n → is_xml_char n ≡ false
not_char n h = grind (arith, tests)

past_all : (base n : ℕ) (digits : List ℕ) → 1 ≤ base → 0x10_FFFF < n → char_behind base n digits ≡ None
past_all base n [] some big = rw (not_char n big) refl
past_all base n (d ∷ digits) some big =
    by_test base n d digits (ltb (digit_value d) base) (past_all base (n * base + digit_value d) digits some (let more : n * 1 ≤ n * base = mul-le-mul_left n some in omega arith))
  where
    by_test : (base n d : ℕ) (digits : List ℕ) (t : Bool) → char_behind base (n * base + digit_value d) digits ≡ None
        → (cond t (number_behind base (n * base + digit_value d) digits) None >>= bytes_of_char) ≡ None
    by_test base n d digits true h = h
    by_test base n d digits false h = refl

pub char_past_all : (base n : ℕ) (digits : List ℕ) → 1 ≤ base → 0x10_FFFF < n → char_behind base n digits ≡ None
char_past_all = past_all

pub numbered-some : (base : ℕ) (digits : List ℕ) → 0 < length digits → numbered base digits ≡ char_behind base 0 digits
numbered-some base [] h = absurd (omega arith)
numbered-some base (d ∷ digits) h = refl

char_cons : (base n d : ℕ) (digits : List ℕ) (t : Bool) → ltb (digit_value d) base ≡ t
    → char_behind base n (d ∷ digits) ≡ cond t (char_behind base (n * base + digit_value d) digits) None
char_cons base n d digits true h = rw h refl
char_cons base n d digits false h = rw h refl

pub char_next : (base n i : ℕ) (digits : List ℕ) → i < length digits → digit_value (get_or digits i 0) < base
    → char_behind base n (drop i digits) ≡ char_behind base (n * base + digit_value (get_or digits i 0)) (drop (i + 1) digits)
char_next base n i digits at less =
    let test : ltb (digit_value (get_or digits i 0)) base ≡ true = lt-ltb _ _ less in
    ap (char_behind base n) (drop-cons digits i 0 at) ∙ char_cons base n (get_or digits i 0) (drop (suc i) digits) true test
    ∙ ap (λ k. char_behind base (n * base + digit_value (get_or digits i 0)) (drop k digits)) (sym (add-one i))

pub char_ends : (base n i : ℕ) (digits : List ℕ) → i < length digits → base ≤ digit_value (get_or digits i 0)
    → char_behind base n (drop i digits) ≡ None
char_ends base n i digits at more =
    let test : ltb (digit_value (get_or digits i 0)) base ≡ false = le-ltb _ _ more in
    ap (char_behind base n) (drop-cons digits i 0 at) ∙ char_cons base n (get_or digits i 0) (drop (suc i) digits) false test

-- what the text so far and the rest come to
pub record RefersOn (made rest whole : List ℕ) : Type 0 where
  pub same : option_map (λ (text : List ℕ). made ++ text) (referred None rest) ≡ referred None whole

pub record EndsOn (made rest whole : List ℕ) : Type 0 where
  pub same : made ++ line_ends_after false rest ≡ line_ends_after false whole

pub ends_first : (made whole : List ℕ) → made ≡ [] → EndsOn made whole whole
ends_first made whole none = record { same = ap (λ front. front ++ line_ends_after false whole) none }

pub ends_last : (made rest whole new : List ℕ) → EndsOn made rest whole → None ≡ cut (13 ∷ []) rest → new ≡ made ++ rest → new ≡ line_ends_after false whole
ends_last made rest whole new so_far none end = end ∙ ap (λ last. made ++ last) (sym (line_ends-none rest (sym none))) ∙ so_far.same

pub ends_next : (made rest whole line behind after new : List ℕ) → EndsOn made rest whole → Some (line, behind) ≡ cut (13 ∷ []) rest
    → line_ends_after true behind ≡ line_ends_after false after → new ≡ (made ++ line) ++ 10 ∷ [] → EndsOn new after whole
ends_next made rest whole line behind after new so_far found same grown = record {
  same = ap (λ front. front ++ line_ends_after false after) grown
      ∙ ap (λ end. ((made ++ line) ++ 10 ∷ []) ++ end) (sym same) ∙ append_assoc (made ++ line) (10 ∷ []) (line_ends_after true behind)
      ∙ append_assoc made line (10 ∷ line_ends_after true behind) ∙ ap (λ end. made ++ end) (sym (line_ends-cut rest line behind (sym found)))
      ∙ so_far.same;
}

pub refers_first : (made whole : List ℕ) → made ≡ [] → RefersOn made whole whole
refers_first made whole none = record { same = ap (λ (front : List ℕ). option_map (λ (text : List ℕ). front ++ text) (referred None whole)) none ∙ sym (mapped_empty (referred None whole)) }

pub refers_last : (made rest whole new : List ℕ) → RefersOn made rest whole → None ≡ cut (38 ∷ []) rest → new ≡ made ++ rest → referred None whole ≡ Some new
refers_last made rest whole new so_far none end =
    sym so_far.same ∙ ap (option_map (λ (text : List ℕ). made ++ text)) (referred-none rest (sym none)) ∙ ap Some (sym end)

refers_cut : (made rest whole plain behind : List ℕ) → RefersOn made rest whole → Some (plain, behind) ≡ cut (38 ∷ []) rest
    → referred None whole ≡ option_map (λ (text : List ℕ). made ++ text) (option_map (λ (text : List ℕ). plain ++ text) (referred (Some []) behind))
refers_cut made rest whole plain behind so_far found =
    sym so_far.same ∙ ap (option_map (λ (text : List ℕ). made ++ text)) (referred-cut rest plain behind (sym found))

pub refers_unended : (made rest whole plain behind : List ℕ) → RefersOn made rest whole → Some (plain, behind) ≡ cut (38 ∷ []) rest
    → None ≡ cut (59 ∷ []) behind → referred None whole ≡ None
refers_unended made rest whole plain behind so_far found none =
    refers_cut made rest whole plain behind so_far found
    ∙ ap (λ (o : Option (List ℕ)). option_map (λ (text : List ℕ). made ++ text) (option_map (λ (text : List ℕ). plain ++ text) o)) (named-none behind (sym none))

refers_named : (made rest whole plain behind name after : List ℕ) → RefersOn made rest whole → Some (plain, behind) ≡ cut (38 ∷ []) rest
    → Some (name, after) ≡ cut (59 ∷ []) behind → (char : Option (List ℕ)) → char ≡ character_of name
    → referred None whole ≡ option_map (λ (text : List ℕ). made ++ text) (option_map (λ (text : List ℕ). plain ++ text)
    (char >>= λ c. option_map (λ (text : List ℕ). c ++ text) (referred None after)))
refers_named made rest whole plain behind name after so_far found closed char is =
    refers_cut made rest whole plain behind so_far found
    ∙ ap (λ (o : Option (List ℕ)). option_map (λ (text : List ℕ). made ++ text) (option_map (λ (text : List ℕ). plain ++ text) o))
    (named-cut behind name after (sym closed) ∙ ap (λ (o : Option (List ℕ)). o >>= λ c. option_map (λ (text : List ℕ). c ++ text) (referred None after)) (sym is))

pub refers_unknown : (made rest whole plain behind name after : List ℕ) → RefersOn made rest whole → Some (plain, behind) ≡ cut (38 ∷ []) rest
    → Some (name, after) ≡ cut (59 ∷ []) behind → None ≡ character_of name → referred None whole ≡ None
refers_unknown made rest whole plain behind name after so_far found closed none =
    refers_named made rest whole plain behind name after so_far found closed None none

mapped_thrice : (made plain char : List ℕ) (o : Option (List ℕ))
    → option_map (λ (text : List ℕ). made ++ text) (option_map (λ (text : List ℕ). plain ++ text) (option_map (λ (text : List ℕ). char ++ text) o))
    ≡ option_map (λ (text : List ℕ). ((made ++ plain) ++ char) ++ text) o
mapped_thrice made plain char None = refl
mapped_thrice made plain char (Some text) = ap Some (simp append_assoc)

pub refers_next : (made rest whole plain behind name after char new : List ℕ) → RefersOn made rest whole → Some (plain, behind) ≡ cut (38 ∷ []) rest
    → Some (name, after) ≡ cut (59 ∷ []) behind → Some char ≡ character_of name → new ≡ (made ++ plain) ++ char → RefersOn new after whole
refers_next made rest whole plain behind name after char new so_far found closed is grown = record {
  same = ap (λ (front : List ℕ). option_map (λ (text : List ℕ). front ++ text) (referred None after)) grown
      ∙ sym (mapped_thrice made plain char (referred None after))
      ∙ sym (refers_named made rest whole plain behind name after so_far found closed (Some char) is);
}
