-- What the refusal of a reply displays (this project's own). The name of a content coding, which stands as a
-- JSON string behind `reply is encoded as `, is left to a test.
use Rattle.std.specs.Prelude.{ℕ, List, Option, Some, None, codes}
use Rattle.http_client.specs.declared.error.ReplyError.{ReplyError}
use Rattle.http_client.specs.declared.error.ReplyError.TheVariants.{Short, Bad, Coded, NoMemory}

abbrev pub error_text : ReplyError → Option (List ℕ)
error_text Short = Some (codes "reply is cut")
error_text Bad = Some (codes "bad reply")
error_text (Coded coding) = None
error_text NoMemory = Some (codes "out of memory")
