use Rattle.std.proofs.Common.{◌≡◌, sym, ◌∙◌, ap}
use Rattle.sync_plan.specs.declared.report.Side.TheVariants.{A, B}
use Rattle.sync_plan.specs.Verdicts.{Due, due_of, version_of}
use Rattle.sync_plan.specs.JobSteps.{all_at}
use Rattle.sync_plan.proofs.Keeping.{story_keeps, undisputed_along, clean_ends, settled_writes}
use Rattle.sync_plan.proofs.laws.rerun.Goals as goal

pub returns : goal.returns
returns c rules ident first last after runs next undisputed story clean (same, untouched, step, _) =
    let kept = story_keeps rules ident first runs last undisputed story in
    let still = undisputed_along rules (first ident) (last ident) kept undisputed in
    let ends : after ident ≡ all_at (version_of (due_of rules (first ident))) = clean_ends rules ident last after clean still ∙ ap (λ (d : Due). all_at (version_of d)) kept in
    let before = sym same ∙ ends in
    let one = step.each ident untouched in (
      ends,
      λ wrote. let w = one.wrote_a wrote in settled_writes rules (version_of (due_of rules (first ident))) (next.before ident) before one.answer w.0 A w.1,
      λ wrote. let w = one.wrote_b wrote in settled_writes rules (version_of (due_of rules (first ident))) (next.before ident) before one.answer w.0 B w.1,
    )
