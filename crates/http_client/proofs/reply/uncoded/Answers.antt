use Rattle.std.proofs.Common.{sym, ◌∙◌, ap}
use Rattle.http_client.specs.Heads.{first_coding}
use Rattle.http_client.specs.Replies.{parts_of}
use Rattle.http_client.proofs.Codings.{coding_is_text}
use Rattle.http_client.proofs.reply.uncoded.Goals as goal

pub coded-requires : goal.coded-requires
coded-requires c =
    coding_is_text c.args.bytes.now (parts_of c.args.reply) c.in-Some.coding.now c.requires
    (ap first_coding (sym c.values_of.ensures) ∙ sym c.in-Some.ensures)
