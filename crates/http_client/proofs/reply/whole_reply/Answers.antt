use Rattle.std.proofs.Common.{length, refl}
use Rattle.http_client.specs.Frames.{got, short, bad}
use Rattle.http_client.specs.Parts.{head_parts, ReadsLastHead}
use Rattle.http_client.specs.Replies.{ReadsFinal, ReadsReply}
use Rattle.http_client.proofs.Passing.{OnRefusal-weaker, reply_from_final}
use Rattle.http_client.proofs.reply.whole_reply.Goals as goal

pub returns-in-Err : goal.returns-in-Err
returns-in-Err c =
    OnRefusal-weaker c.in-Err.error (ReadsLastHead c.args.bytes.now short) (ReadsLastHead c.args.bytes.now bad)
    (ReadsReply c.args.bytes.now short) (ReadsReply c.args.bytes.now bad)
    (λ h. record { interim = h.0; last = short; heads = h.1; final = refl })
    (λ h. record { interim = h.0; last = bad; heads = h.1; final = refl })
    c.in-Err.ensures.found

pub returns-in-Ok : goal.returns-in-Ok
returns-in-Ok c =
    let heads = c.in-Ok.ensures.found in
    reply_from_final c.reply_behind.result
    (ReadsFinal (length c.args.bytes.now) (got (head_parts c.in-Ok.found.0, c.in-Ok.found.1.now)))
    (ReadsReply c.args.bytes.now)
    (λ f final. record { interim = heads.0; last = got (head_parts c.in-Ok.found.0, c.in-Ok.found.1.now); heads = heads.1; final = final })
    c.reply_behind.ensures
