use Rattle.std.proofs.lemmas.Result.{on_ok_weaker}
use Rattle.http_client.proofs.RequestLemmas.{head_written}
use Rattle.http_client.proofs.request.put_head.Goals as goal

pub returns : goal.returns
returns c =
    on_ok_weaker c.put_length.result
    (λ last. head_written c.args.request.now c.args.out.now.items _ _ _ _ _ _ _ _
    c.in_ok-put_start.ensures c.in_ok-put_host.ensures c.in_ok-put_agent.ensures c.in_ok-put_field.ensures
    c.in_ok-put_field-2.ensures c.in_ok-put_login.ensures c.in_ok-put_extra.ensures last)
    c.put_length.ensures
