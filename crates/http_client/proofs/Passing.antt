-- Lemmas on how a reader passes on what a reader below it answers, of specs/Parts.antt and specs/Replies.antt
use Rattle.std.proofs.Common.{ℕ, List, Result, Ok, Err}
use Rattle.http_client.specs.declared.chunks.Piece.{Piece}
use Rattle.http_client.specs.declared.chunks.Piece.TheVariants.{Chunk, Last}
use Rattle.http_client.specs.declared.reply.Reply.{Reply}
use Rattle.http_client.specs.declared.error.ReplyError.{ReplyError}
use Rattle.http_client.specs.declared.error.ReplyError.TheVariants.{Short, Bad, Coded, NoMemory}
use Rattle.http_client.specs.Frames.{Found, got, short, bad, Step, onward, ended}
use Rattle.http_client.specs.Parts.{StepIs}
use Rattle.http_client.specs.Replies.{ReplyParts, parts_of, ReadsReply, IsAnswer, OnRefusal, Finds}

pub OnRefusal-weaker : (e : ReplyError) (P Q S T : Type 0) → (P → S) → (Q → T) → OnRefusal e P Q → OnRefusal e S T
OnRefusal-weaker Short P Q S T cut refused h = cut h
OnRefusal-weaker Bad P Q S T cut refused h = refused h
OnRefusal-weaker (Coded coding) P Q S T cut refused h = h
OnRefusal-weaker NoMemory P Q S T cut refused h = h

pub StepIs-weaker : (r : Result Piece ReplyError) (R S : Step (List ℕ) (Found (List ℕ)) → Type 0)
    → ((s : Step (List ℕ) (Found (List ℕ))) → R s → S s) → StepIs r R → StepIs r S
StepIs-weaker (Ok (Chunk chunk behind)) R S on h = on (onward chunk.now behind.now) h
StepIs-weaker (Ok (Last behind)) R S on h = on (ended (got behind.now)) h
StepIs-weaker (Err e) R S on h = OnRefusal-weaker e _ _ _ _ (on (ended short)) (on (ended bad)) h

pub reply_from_final : (r : Result Reply ReplyError) (R S : Found ReplyParts → Type 0)
    → ((f : Found ReplyParts) → R f → S f) → Finds (λ reply. parts_of reply) r R → Finds (λ reply. parts_of reply) r S
reply_from_final (Ok reply) R S on h = on (got (parts_of reply)) h
reply_from_final (Err e) R S on h = OnRefusal-weaker e _ _ _ _ (on short) (on bad) h

pub answer_from_refusal : (bytes : List ℕ) (e : ReplyError) → OnRefusal e (ReadsReply bytes short) (ReadsReply bytes bad) → IsAnswer bytes (Err e)
answer_from_refusal bytes Short h = h
answer_from_refusal bytes Bad h = h
answer_from_refusal bytes (Coded coding) h = absurd h
answer_from_refusal bytes NoMemory h = h
