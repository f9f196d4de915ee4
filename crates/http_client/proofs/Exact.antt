-- An answer that says what bytes are is the only one: lemmas on specs/Replies.antt
use Rattle.std.proofs.Common.{◌≡◌, refl, ℕ, List, Some, None, Result, Ok, Err, sym, ◌∙◌, ap, inl, inr}
use Rattle.http_client.specs.declared.reply.Reply.{Reply}
use Rattle.http_client.specs.declared.error.ReplyError.{ReplyError}
use Rattle.http_client.specs.declared.error.ReplyError.TheVariants.{Short, Bad, Coded, NoMemory}
use Rattle.http_client.specs.Frames.{got, short, bad}
use Rattle.http_client.specs.Heads.{coding_of}
use Rattle.http_client.specs.Replies.{ReplyParts, parts_of, ReadsReply, IsAnswer, Gives, Refuses}
use Rattle.http_client.proofs.Unique.{ReadsReply-unique}

pub gives_whole : (bytes : List ℕ) (parts : ReplyParts) (r : Result Reply ReplyError) → IsAnswer bytes r
    → ReadsReply bytes (got parts) → coding_of parts.headers ≡ None → Gives parts r
gives_whole bytes parts (Ok reply) x y none =
    let same : got (parts_of reply) ≡ got parts = ReadsReply-unique bytes _ _ x.0 y in cc
gives_whole bytes parts (Err Short) x y none =
    let same : short ≡ got parts = ReadsReply-unique bytes _ _ x y in cc
gives_whole bytes parts (Err Bad) x y none =
    let same : bad ≡ got parts = ReadsReply-unique bytes _ _ x y in cc
gives_whole bytes parts (Err (Coded coding)) x y none =
    let same : got x.0 ≡ got parts = ReadsReply-unique bytes _ _ x.1 y in
    let parts_same : x.0 ≡ parts = cc in
    let clash : Some coding ≡ None = sym x.2 ∙ ap (λ p. coding_of p.headers) parts_same ∙ none in
    cc
gives_whole bytes parts (Err NoMemory) x y none = refl

pub refuses_coded : (bytes : List ℕ) (parts : ReplyParts) (coding : List ℕ) (r : Result Reply ReplyError) → IsAnswer bytes r
    → ReadsReply bytes (got parts) → coding_of parts.headers ≡ Some coding → Refuses (Coded coding) r
refuses_coded bytes parts coding (Ok reply) x y some =
    let same : got (parts_of reply) ≡ got parts = ReadsReply-unique bytes _ _ x.0 y in
    let parts_same : parts_of reply ≡ parts = cc in
    let clash : None ≡ Some coding = sym x.1 ∙ ap (λ p. coding_of p.headers) parts_same ∙ some in
    cc
refuses_coded bytes parts coding (Err Short) x y some =
    let same : short ≡ got parts = ReadsReply-unique bytes _ _ x y in cc
refuses_coded bytes parts coding (Err Bad) x y some =
    let same : bad ≡ got parts = ReadsReply-unique bytes _ _ x y in cc
refuses_coded bytes parts coding (Err (Coded told)) x y some =
    let same : got x.0 ≡ got parts = ReadsReply-unique bytes _ _ x.1 y in
    let parts_same : x.0 ≡ parts = cc in
    let codings : Some told ≡ Some coding = sym x.2 ∙ ap (λ p. coding_of p.headers) parts_same ∙ some in
    let coding_same : told ≡ coding = cc in
    inl (ap Coded coding_same)
refuses_coded bytes parts coding (Err NoMemory) x y some = inr refl

pub refuses_short : (bytes : List ℕ) (r : Result Reply ReplyError) → IsAnswer bytes r → ReadsReply bytes short → Refuses Short r
refuses_short bytes (Ok reply) x y = let same : got (parts_of reply) ≡ short = ReadsReply-unique bytes _ _ x.0 y in cc
refuses_short bytes (Err Short) x y = inl refl
refuses_short bytes (Err Bad) x y = let same : bad ≡ short = ReadsReply-unique bytes _ _ x y in cc
refuses_short bytes (Err (Coded coding)) x y = let same : got x.0 ≡ short = ReadsReply-unique bytes _ _ x.1 y in cc
refuses_short bytes (Err NoMemory) x y = inr refl

pub refuses_bad : (bytes : List ℕ) (r : Result Reply ReplyError) → IsAnswer bytes r → ReadsReply bytes bad → Refuses Bad r
refuses_bad bytes (Ok reply) x y = let same : got (parts_of reply) ≡ bad = ReadsReply-unique bytes _ _ x.0 y in cc
refuses_bad bytes (Err Short) x y = let same : short ≡ bad = ReadsReply-unique bytes _ _ x y in cc
refuses_bad bytes (Err Bad) x y = inl refl
refuses_bad bytes (Err (Coded coding)) x y = let same : got x.0 ≡ bad = ReadsReply-unique bytes _ _ x.1 y in cc
refuses_bad bytes (Err NoMemory) x y = inr refl
