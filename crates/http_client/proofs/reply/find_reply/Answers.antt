use Rattle.http_client.proofs.Passing.{answer_from_refusal}
use Rattle.http_client.proofs.reply.find_reply.Goals as goal

pub returns-in-Err : goal.returns-in-Err
returns-in-Err c = answer_from_refusal c.args.bytes.now c.in-Err.error c.in-Err.ensures
