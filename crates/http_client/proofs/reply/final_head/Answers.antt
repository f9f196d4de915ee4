use Rattle.std.proofs.Common.{◌≡◌, refl, ◌++◌, ◌∷◌, [], true, false, arith, rules}
use Rattle.http_client.specs.Frames.{short, bad}
use Rattle.http_client.specs.Heads.{is_interim, ReadsHead, HeadStep}
use Rattle.http_client.specs.Parts.{head_parts, spans_parts, ReadsLastHead}
use Rattle.http_client.proofs.Walks.{Leads-end}
use Rattle.http_client.proofs.Passing.{OnRefusal-weaker}
use Rattle.http_client.proofs.Rests.{head_passed, head_last, behind_within}
use Rattle.http_client.proofs.reply.final_head.Goals as goal

pub returns-in-Err-clause-found : goal.returns-in-Err-clause-found
returns-in-Err-clause-found c =
    let so_far = c.heads.invariant in
    OnRefusal-weaker c.in-Err.error (ReadsHead c.heads.rest.now short) (ReadsHead c.heads.rest.now bad)
    (ReadsLastHead c.args.bytes.now short) (ReadsLastHead c.args.bytes.now bad)
    (λ h. (so_far.0, Leads-end HeadStep c.args.bytes.now c.heads.rest.now so_far.0 short so_far.1 (short, h, refl)))
    (λ h. (so_far.0, Leads-end HeadStep c.args.bytes.now c.heads.rest.now so_far.0 bad so_far.1 (bad, h, refl)))
    c.in-Err.ensures.found

pub returns-in-Ok-lend_head-clause-found : goal.returns-in-Ok-lend_head-clause-found
returns-in-Ok-lend_head-clause-found c =
    let so_far = c.heads.invariant in
    let last : is_interim c.in-Ok.found.spans.code ≡ false = first_of (cc, search rules, grind arith) in
    head_last c.args.bytes.now c.heads.rest.now c.find_head.new.fields c.in-Ok.found.part.now c.in-Ok.found.spans
    (head_parts c.in-Ok-lend_head.head) so_far.0 so_far.1 c.in-Ok.ensures.found last c.in-Ok-lend_head.ensures

pub heads-preserved : goal.heads-preserved
heads-preserved c =
    let so_far = c.heads.invariant in
    let passed : is_interim c.in-Ok.found.spans.code ≡ true = first_of (cc, search rules, grind arith) in (
      so_far.0 ++ spans_parts c.in-Ok.found.part.now c.find_head.new.fields c.in-Ok.found.spans ∷ [],
      head_passed c.args.bytes.now c.heads.rest.now c.find_head.new.fields c.in-Ok.found.part.now c.in-Ok.found.spans so_far.0 so_far.1
          c.in-Ok.ensures.found passed,
      behind_within c.args.bytes.now c.heads.rest.now c.in-Ok.found.spans.len c.in-Ok.ensures.within so_far.2,
      c.in-Ok.ensures.found.room,
    )
