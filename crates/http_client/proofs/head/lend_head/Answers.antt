use Rattle.http_client.proofs.Rests.{names_are_texts, head_lent}
use Rattle.http_client.proofs.head.lend_head.Goals as goal

pub lend_fields-requires-clause-texts : goal.lend_fields-requires-clause-texts
lend_fields-requires-clause-texts c =
    names_are_texts _ c.args.fields.now c.args.found.now.spans c.requires

pub returns : goal.returns
returns c =
    head_lent c.args.found.now.part.now c.args.fields.now c.args.found.now.spans c.version_of.result c.in_ok-headers.headers.items
    c.version_of.ensures c.in_ok-headers.ensures
