use Rattle.std.proofs.Common.{string_bytes, ap, ◌∙◌}
use Rattle.std.proofs.lemmas.Result.{IfOk-weaker}
use Rattle.http_client.specs.Request.{base64_of}
use Rattle.http_client.proofs.RequestLemmas.{credentials_are}
use Rattle.http_client.proofs.request.credentials_of.Goals as goal

pub returns : goal.returns
returns c =
    IfOk-weaker c.format-2.result _ _
    (λ value is. credentials_are (string_bytes c.in_ok-pair.pair) (string_bytes c.in_ok-encoded.encoded) (string_bytes value) c.args.user.now c.args.password.now
    c.in_ok-pair.ensures.ok (c.in_ok-encoded.ensures ∙ ap base64_of c.as_str.ensures.value) is)
    c.format-2.ensures.ok
