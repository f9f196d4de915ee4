use Rattle.http_client.proofs.Exact.{gives_whole, refuses_coded, refuses_short, refuses_bad}
use Rattle.http_client.proofs.reply.read_reply.Goals as goal

pub returns-clause-whole : goal.returns-clause-whole
returns-clause-whole c = λ parts. gives_whole c.args.bytes.now parts c.find_reply.result c.find_reply.ensures

pub returns-clause-coded : goal.returns-clause-coded
returns-clause-coded c = λ parts coding. refuses_coded c.args.bytes.now parts coding c.find_reply.result c.find_reply.ensures

pub returns-clause-cut : goal.returns-clause-cut
returns-clause-cut c = refuses_short c.args.bytes.now c.find_reply.result c.find_reply.ensures

pub returns-clause-refused : goal.returns-clause-refused
returns-clause-refused c = refuses_bad c.args.bytes.now c.find_reply.result c.find_reply.ensures
