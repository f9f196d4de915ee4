use Rattle.dav_requests.proofs.ReadBack.{read_back}
use Rattle.dav_requests.proofs.laws.escaped_texts_are_read_back.Goals as goal

pub returns : goal.returns
returns c = read_back
