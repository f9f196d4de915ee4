-- What bytes are as a reply is one thing: lemmas on specs/Replies.antt and what it stands on
use Rattle.std.proofs.Common.{◌≡◌, refl, ℕ, List, [], ◌∷◌, ◌++◌, Some, None, sym, ◌∙◌, ap, subst, take, drop, length}
use Rattle.httparse.specs.Grammar.{chunk_size, ReadsResponse, ResponseHead}
use Rattle.httparse.proofs.GrammarLemmas.{response_unique}
use Rattle.httparse.proofs.ChunkLemmas.{chunk_line_unique, ReadsChunkLine-append}
use Rattle.http_client.specs.declared.head.Framing.{Framing}
use Rattle.http_client.specs.declared.head.Framing.TheVariants.{Nothing, Chunked, Length, ToEnd, Refused}
use Rattle.http_client.specs.Frames.{Found, got, short, bad, Step, onward, ended, Repeats}
use Rattle.http_client.specs.Heads.{HeadParts, parts_of_head, ReadsHead, head_step, HeadStep, framing_of}
use Rattle.http_client.specs.Chunks.{ReadsSize, chunk_step, ChunkStep, body_of_chunks, ReadsChunked}
use Rattle.http_client.specs.Replies.{ReplyParts, ReadsBody, with_body, ReadsFinal, ReadsReply}

pair_same : {A B : Type 0} (p q : A × B) → p.0 ≡ q.0 → p.1 ≡ q.1 → p ≡ q
pair_same p q first second = ap (λ a. (a, p.1)) first ∙ ap (λ b. (q.0, b)) second

pub Repeats-unique : {A B : Type 0} (Reads : List ℕ → Step A B → Type 0)
    → ((bytes : List ℕ) (s t : Step A B) → Reads bytes s → Reads bytes t → s ≡ t)
    → (bytes : List ℕ) (xs ys : List A) (b d : B) → Repeats Reads bytes xs b → Repeats Reads bytes ys d
    → (xs ≡ ys) × (b ≡ d)
Repeats-unique Reads one bytes [] [] b d x y =
    let same : ended b ≡ ended d = one bytes (ended b) (ended d) x y in
    (refl, cc)
Repeats-unique Reads one bytes [] (c ∷ ys) b d x y =
    let same : ended b ≡ onward c y.0 = one bytes (ended b) (onward c y.0) x y.1 in
    cc
Repeats-unique Reads one bytes (a ∷ xs) [] b d x y =
    let same : onward a x.0 ≡ ended d = one bytes (onward a x.0) (ended d) x.1 y in
    cc
Repeats-unique Reads one bytes (a ∷ xs) (c ∷ ys) b d x y =
    let same : onward a x.0 ≡ onward c y.0 = one bytes (onward a x.0) (onward c y.0) x.1 y.1 in
    let behind : x.0 ≡ y.0 = cc in
    let first : a ≡ c = cc in
    let rest = Repeats-unique Reads one y.0 xs ys b d (subst (λ t. Repeats Reads t xs b) behind x.2) y.2 in
    (ap (λ e. e ∷ xs) first ∙ ap (λ es. c ∷ es) rest.0, rest.1)

pub ReadsSize-unique : (bytes : List ℕ) (f g : Found (ℕ × List ℕ)) → ReadsSize bytes f → ReadsSize bytes g → f ≡ g
ReadsSize-unique bytes (got p) (got q) x y =
    let same = chunk_line_unique bytes x.0 y.0 p.1 q.1 x.1 y.1 in
    ap got (pair_same p q (x.2 ∙ ap chunk_size same.0 ∙ sym y.2) same.1)
ReadsSize-unique bytes (got p) short x y = absurd (y.0 x.0 p.1 x.1)
ReadsSize-unique bytes (got p) bad x y = absurd (y [] x.0 (p.1 ++ []) (ReadsChunkLine-append bytes x.0 p.1 [] x.1))
ReadsSize-unique bytes short (got q) x y = absurd (x.0 y.0 q.1 y.1)
ReadsSize-unique bytes short short x y = refl
ReadsSize-unique bytes short bad x y = absurd (y x.1.0 x.1.1 [] x.1.2)
ReadsSize-unique bytes bad (got q) x y = absurd (x [] y.0 (q.1 ++ []) (ReadsChunkLine-append bytes y.0 q.1 [] y.1))
ReadsSize-unique bytes bad short x y = absurd (x y.1.0 y.1.1 [] y.1.2)
ReadsSize-unique bytes bad bad x y = refl

pub ChunkStep-unique : (bytes : List ℕ) (s t : Step (List ℕ) (Found (List ℕ))) → ChunkStep bytes s → ChunkStep bytes t → s ≡ t
ChunkStep-unique bytes s t x y = x.2 ∙ ap chunk_step (ReadsSize-unique bytes x.0 y.0 x.1 y.1) ∙ sym y.2

pub ReadsChunked-unique : (bytes : List ℕ) (f g : Found (List ℕ × List ℕ)) → ReadsChunked bytes f → ReadsChunked bytes g → f ≡ g
ReadsChunked-unique bytes f g x y =
    let same = Repeats-unique ChunkStep ChunkStep-unique bytes x.chunks y.chunks x.end y.end x.steps y.steps in
    x.found_is ∙ ap (λ chunks. body_of_chunks chunks x.end) same.0 ∙ ap (λ end. body_of_chunks y.chunks end) same.1 ∙ sym y.found_is

heads_same : (bytes : List ℕ) (e d : ℕ) (h k : ResponseHead) (r q : List ℕ) → e ≡ d
    → ReadsResponse (take e bytes) h r → ReadsResponse (take d bytes) k q → (h ≡ k) × (r ≡ q)
heads_same bytes e d h k r q same x y =
    response_unique (take d bytes) h k r q (subst (λ end. ReadsResponse (take end bytes) h r) same x) y

pub ReadsHead-unique : (bytes : List ℕ) (f g : Found (HeadParts × List ℕ)) → ReadsHead bytes f → ReadsHead bytes g → f ≡ g
ReadsHead-unique bytes (got p) (got q) x y =
    let ends : Some x.end ≡ Some y.end = sym x.end_is ∙ y.end_is in
    let end : x.end ≡ y.end = cc in
    let same = heads_same bytes x.end y.end x.head y.head x.over y.over end x.reads y.reads in
    ap got (pair_same p q
    (x.parts_are ∙ ap parts_of_head same.0 ∙ sym y.parts_are)
    (x.behind_is ∙ ap (λ over. over ++ drop x.end bytes) same.1 ∙ ap (λ end. y.over ++ drop end bytes) end ∙ sym y.behind_is))
ReadsHead-unique bytes (got p) short x y =
    let ends : Some x.end ≡ None = sym x.end_is ∙ y in cc
ReadsHead-unique bytes (got p) bad x y =
    let ends : Some x.end ≡ Some y.end = sym x.end_is ∙ y.end_is in
    let end : x.end ≡ y.end = cc in
    absurd (y.none x.head x.over (subst (λ e. ReadsResponse (take e bytes) x.head x.over) end x.reads) x.room)
ReadsHead-unique bytes short (got q) x y =
    let ends : Some y.end ≡ None = sym y.end_is ∙ x in cc
ReadsHead-unique bytes short short x y = refl
ReadsHead-unique bytes short bad x y =
    let ends : Some y.end ≡ None = sym y.end_is ∙ x in cc
ReadsHead-unique bytes bad (got q) x y =
    let ends : Some y.end ≡ Some x.end = sym y.end_is ∙ x.end_is in
    let end : y.end ≡ x.end = cc in
    absurd (x.none y.head y.over (subst (λ e. ReadsResponse (take e bytes) y.head y.over) end y.reads) y.room)
ReadsHead-unique bytes bad short x y =
    let ends : Some x.end ≡ None = sym x.end_is ∙ y in cc
ReadsHead-unique bytes bad bad x y = refl

pub HeadStep-unique : (bytes : List ℕ) (s t : Step HeadParts (Found (HeadParts × List ℕ))) → HeadStep bytes s → HeadStep bytes t → s ≡ t
HeadStep-unique bytes s t x y = x.2 ∙ ap head_step (ReadsHead-unique bytes x.0 y.0 x.1 y.1) ∙ sym y.2

pub ReadsBody-unique : (framing : Framing) (bytes : List ℕ) (f g : Found (List ℕ × List ℕ))
    → ReadsBody framing bytes f → ReadsBody framing bytes g → f ≡ g
ReadsBody-unique Nothing bytes f g x y = x ∙ sym y
ReadsBody-unique Chunked bytes f g x y = ReadsChunked-unique bytes f g x y
ReadsBody-unique (Length n) bytes f g x y = x ∙ sym y
ReadsBody-unique ToEnd bytes f g x y = x ∙ sym y
ReadsBody-unique Refused bytes f g x y = x ∙ sym y

ReadsFinal-unique : (total : ℕ) (last : Found (HeadParts × List ℕ)) (f g : Found ReplyParts)
    → ReadsFinal total last f → ReadsFinal total last g → f ≡ g
ReadsFinal-unique total (got h) f g x y =
    x.2 ∙ ap (with_body total h.0) (ReadsBody-unique (framing_of h.0) h.1 x.0 y.0 x.1 y.1) ∙ sym y.2
ReadsFinal-unique total short f g x y = x ∙ sym y
ReadsFinal-unique total bad f g x y = x ∙ sym y

pub ReadsReply-unique : (bytes : List ℕ) (f g : Found ReplyParts) → ReadsReply bytes f → ReadsReply bytes g → f ≡ g
ReadsReply-unique bytes f g x y =
    let same = Repeats-unique HeadStep HeadStep-unique bytes x.interim y.interim x.last y.last x.heads y.heads in
    ReadsFinal-unique (length bytes) y.last f g (subst (λ last. ReadsFinal (length bytes) last f) same.1 x.final) y.final
