use Rattle.std.proofs.Common.{sym, ◌∙◌, ap}
use Rattle.item_text.specs.Components.{next_place}
use Rattle.item_text.specs.Refusals.{fault_at}
use Rattle.item_text.specs.Kinds.{kind_seen}
use Rattle.item_text.specs.Places.{place_seen, names_of}
use Rattle.item_text.specs.declared.words.LineKind.{LineKind}
use Rattle.item_text.proofs.Stacks.{went_in, went_out, went_on, went_by}
use Rattle.item_text.proofs.stack.Stack.go.Goals as goal

pub returns-in_ok-enter-in-Opens-clause-place : goal.returns-in_ok-enter-in-Opens-clause-place
returns-in_ok-enter-in-Opens-clause-place c =
    c.in_ok-enter-in-Opens.ensures.place
    ∙ (went_in c.requires.fits.0 (names_of c.args.self.now) c.args.self.now.begun _ (ap (λ (k : LineKind). fault_at c.requires.fits.0 (place_seen c.args.self.now) (kind_seen k)) (sym c.in-Opens.is) ∙ c.requires.fits.1)
    ∙ ap (λ (k : LineKind). next_place (place_seen c.args.self.now) (kind_seen k)) (sym c.in-Opens.is))

pub returns-in-Closes-clause-place : goal.returns-in-Closes-clause-place
returns-in-Closes-clause-place c =
    c.leave.ensures.place
    ∙ (went_out c.requires.fits.0 (names_of c.args.self.now) c.args.self.now.begun _ (ap (λ (k : LineKind). fault_at c.requires.fits.0 (place_seen c.args.self.now) (kind_seen k)) (sym c.in-Closes.is) ∙ c.requires.fits.1)
    ∙ ap (λ (k : LineKind). next_place (place_seen c.args.self.now) (kind_seen k)) (sym c.in-Closes.is))

pub returns-in-Property-clause-place : goal.returns-in-Property-clause-place
returns-in-Property-clause-place c =
    went_on (names_of c.args.self.now) c.args.self.now.begun _ _ ∙ ap (λ (k : LineKind). next_place (place_seen c.args.self.now) (kind_seen k)) (sym c.in-Property.is)

pub returns-in-Blank-clause-place : goal.returns-in-Blank-clause-place
returns-in-Blank-clause-place c =
    went_by (names_of c.args.self.now) c.args.self.now.begun ∙ ap (λ (k : LineKind). next_place (place_seen c.args.self.now) (kind_seen k)) (sym c.in-Blank.is)
