use Rattle.std.proofs.Common.{refl, rules, arith}
use Rattle.http_client.specs.Frames.{got, short, bad}
use Rattle.http_client.specs.Heads.{framing_of}
use Rattle.http_client.specs.Parts.{head_parts}
use Rattle.http_client.specs.Replies.{ReadsBody, ReadsFinal}
use Rattle.http_client.proofs.Passing.{OnRefusal-weaker}
use Rattle.http_client.proofs.reply.reply_behind.Goals as goal

pub returns-in-Err : goal.returns-in-Err
returns-in-Err c =
    OnRefusal-weaker c.in-Err.error
    (ReadsBody (framing_of (head_parts c.args.head)) c.args.bytes.now short) (ReadsBody (framing_of (head_parts c.args.head)) c.args.bytes.now bad)
    (ReadsFinal c.args.total (got (head_parts c.args.head, c.args.bytes.now)) short) (ReadsFinal c.args.total (got (head_parts c.args.head, c.args.bytes.now)) bad)
    (λ h. (short, h, refl)) (λ h. (bad, h, refl))
    (rw c.framing_of.ensures at c.in-Err.ensures.found)

pub returns : goal.returns
returns c = (got (c.in-Ok.found.0, c.in-Ok.found.1.now), rw c.framing_of.ensures at c.in-Ok.ensures.found, first_of (cc, search rules, grind arith))
