-- Lemmas on content codings: those of a reply are UTF-8, by specs/Heads.antt
use Rattle.std.proofs.Common.{◌≡◌, ◌⊎◌, refl, ℕ, List, [], ◌∷◌, Option, Some, None, Bool, true, false, not, cond, codes, length, ◌-◌, ap, ◌∙◌, subst, inl, inr}
use Rattle.std.specs.List.{list_all}
use Rattle.std.specs.Str.{IsUtf8, is_utf8, str_eq_ignore_ascii_case}
use Rattle.std.proofs.lemmas.Str.{IsUtf8-from_is_utf8}
use Rattle.http_client.specs.declared.head.Framing.{Framing}
use Rattle.http_client.specs.declared.head.Framing.TheVariants.{Refused}
use Rattle.http_client.specs.Frames.{Found, got, short, bad}
use Rattle.http_client.specs.Heads.{HeadParts, codings_of, first_coding, framing_of}
use Rattle.http_client.specs.Replies.{ReplyParts, ReadsBody, with_body, ReadsFinal, ReadsReply}
use Rattle.http_client.proofs.Lengths.{both_true}

pub no_text : (bytes : List ℕ) (b : Bool) → is_utf8 bytes ≡ b → ¬ (IsUtf8 bytes) → false ≡ b
no_text bytes true is none = absurd (none (IsUtf8-from_is_utf8 bytes is))
no_text bytes false is none = refl

texts_from : (refused texts : Bool) (framing : Framing) (bytes : List ℕ) (body : List ℕ × List ℕ)
    → ReadsBody (cond refused Refused (cond (not texts) Refused framing)) bytes (got body) → texts ≡ true
texts_from true texts framing bytes body x = let clash : got body ≡ bad = x in cc
texts_from false true framing bytes body x = refl
texts_from false false framing bytes body x = let clash : got body ≡ bad = x in cc

body_texts : (h : HeadParts) (bytes : List ℕ) (body : List ℕ × List ℕ) → ReadsBody (framing_of h) bytes (got body)
    → list_all is_utf8 (codings_of h.headers) ≡ true
body_texts h bytes body x = texts_from _ (list_all is_utf8 (codings_of h.headers)) _ bytes body x

with_texts : (total : ℕ) (h : HeadParts) (bytes : List ℕ) (found : Found (List ℕ × List ℕ)) (parts : ReplyParts) → ReadsBody (framing_of h) bytes found
    → got parts ≡ with_body total h found → list_all is_utf8 (codings_of parts.headers) ≡ true
with_texts total h bytes (got body) parts x is =
    let same : got parts ≡ got (record { version = h.version; code = h.code; headers = h.headers; body = body.0; used = total - length body.1 }) = is in
    let inner : parts ≡ record { version = h.version; code = h.code; headers = h.headers; body = body.0; used = total - length body.1 } = cc in
    ap (λ p. list_all is_utf8 (codings_of p.headers)) inner ∙ body_texts h bytes body x
with_texts total h bytes short parts x is = let clash : got parts ≡ short = is in cc
with_texts total h bytes bad parts x is = let clash : got parts ≡ bad = is in cc

final_texts : (total : ℕ) (last : Found (HeadParts × List ℕ)) (parts : ReplyParts) → ReadsFinal total last (got parts)
    → list_all is_utf8 (codings_of parts.headers) ≡ true
final_texts total (got head) parts x = with_texts total head.0 head.1 x.0 parts x.1 x.2
final_texts total short parts x = let clash : got parts ≡ short = x in cc
final_texts total bad parts x = let clash : got parts ≡ bad = x in cc

picked : (same : Bool) (v w : List ℕ) (rest : Option (List ℕ)) → cond same rest (Some w) ≡ Some v → (rest ≡ Some v) ⊎ (w ≡ v)
picked true v w rest h = inl h
picked false v w rest h = let some : Some w ≡ Some v = h in let same : w ≡ v = cc in inr same

first_text : (vs : List (List ℕ)) (v : List ℕ) → list_all is_utf8 vs ≡ true → first_coding vs ≡ Some v → is_utf8 v ≡ true
first_text [] v all is = let clash : None ≡ Some v = is in cc
first_text (w ∷ ws) v all is =
    let parts = both_true (is_utf8 w) (list_all is_utf8 ws) all in
    elim (picked (str_eq_ignore_ascii_case w (codes "identity")) v w (first_coding ws) is) [
      | inl rest ↦ first_text ws v parts.1 rest
      | inr same ↦ subst (λ t. is_utf8 t ≡ true) same parts.0
    ]

pub coding_is_text : (bytes : List ℕ) (parts : ReplyParts) (coding : List ℕ) → ReadsReply bytes (got parts)
    → first_coding (codings_of parts.headers) ≡ Some coding → IsUtf8 coding
coding_is_text bytes parts coding x is =
    IsUtf8-from_is_utf8 coding (first_text (codings_of parts.headers) coding (final_texts (length bytes) x.last parts x.final) is)
