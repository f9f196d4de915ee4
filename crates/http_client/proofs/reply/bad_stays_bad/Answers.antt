use Rattle.http_client.proofs.Stays.{bad_stays}
use Rattle.http_client.proofs.reply.bad_stays_bad.Goals as goal

pub returns : goal.returns
returns c = bad_stays
