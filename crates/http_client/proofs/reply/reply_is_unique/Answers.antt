use Rattle.http_client.proofs.Unique.{ReadsReply-unique}
use Rattle.http_client.proofs.reply.reply_is_unique.Goals as goal

pub returns : goal.returns
returns c = ReadsReply-unique
