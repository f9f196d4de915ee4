use Rattle.std.proofs.Common.{◌≡◌, [], ◌∷◌, codes, sym, ◌∙◌, ap}
use Rattle.http_client.specs.Heads.{coded_framing, values_of}
use Rattle.http_client.proofs.head.coded_framing.Goals as goal

pub returns-in-None-next : goal.returns-in-None-next
returns-in-None-next c =
    let one : values_of (codes "Transfer-Encoding") c.args.headers.now ≡ c.in-Some.coding.now ∷ [] =
    sym c.values_of-transfer.ensures ∙ c.in-Some.ensures.steps ∙ ap (λ rest. c.in-Some.coding.now ∷ rest) c.in-None-next.ensures.steps.0 in
    c.transfer_framing.ensures c.args.headers.now ∙ ap (λ values. coded_framing values c.args.headers.now) (sym one)
