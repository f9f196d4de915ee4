use Rattle.std.proofs.Common.{◌∙◌}
use Rattle.item_text.specs.Places.{place_seen}
use Rattle.item_text.specs.Kinds.{kind_seen}
use Rattle.file_text.proofs.Opening.{uid_between}
use Rattle.file_text.proofs.opened.Opened.uid.Goals as goal

pub returns : goal.returns
returns c = c.uid.ensures ∙ uid_between (place_seen c.args.self.now.stack) (kind_seen c.args.kind)
