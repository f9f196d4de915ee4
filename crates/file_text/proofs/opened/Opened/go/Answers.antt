use Rattle.std.proofs.Common.{◌∙◌, ap}
use Rattle.std.proofs.lemmas.Result.{on_ok_weaker}
use Rattle.item_text.specs.Components.{Place}
use Rattle.item_text.specs.Refusals.{fault_at}
use Rattle.item_text.specs.Kinds.{kind_seen}
use Rattle.item_text.specs.Places.{place_seen}
use Rattle.file_text.proofs.Opening.{no_fault, went}
use Rattle.file_text.proofs.opened.Opened.go.Goals as goal

pub go-requires-clause-fits : goal.go-requires-clause-fits
go-requires-clause-fits c = (
  c.requires.fits.0,
  ap (λ (p : Place). fault_at c.requires.fits.0 p (kind_seen c.args.kind)) c.reopen.ensures.place ∙ no_fault c.requires.fits.0 (place_seen c.args.self.now.stack) (kind_seen c.args.kind) c.requires.fits.1,
)

pub returns-clause-place : goal.returns-clause-place
returns-clause-place c = on_ok_weaker c.go.result (λ h. went _ _ _ (kind_seen c.args.kind) h c.reopen.ensures.place) c.go.ensures.place
