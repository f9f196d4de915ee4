use Rattle.std.proofs.Common.{sym, refl}
use Rattle.config_model.specs.Pairs.{pair_values}
use Rattle.config_model.proofs.Chains.{refused}
use Rattle.config_model.proofs.pairs.pair_values.Goals as goal

pub returns-in_err-collections : goal.returns-in_err-collections
unfolding pair_values
returns-in_err-collections c =
    refused (pair_values c.args.sections.now c.args.section.now c.args.name.now c.args.entries.now) c.from_residual-in_err-collections.result c.in_err-collections.field-0.0 c.from_residual-in_err-collections.ensures.1
    (λ other. rw c.in_ok-a.ensures (rw c.in_ok-b.ensures (rw (c.in_err-collections.ensures other) refl)))

pub returns-in_err-conflict : goal.returns-in_err-conflict
unfolding pair_values
returns-in_err-conflict c =
    refused (pair_values c.args.sections.now c.args.section.now c.args.name.now c.args.entries.now) c.from_residual-in_err-conflict.result c.in_err-conflict.field-0.0 c.from_residual-in_err-conflict.ensures.1
    (λ other. rw c.in_ok-a.ensures (rw c.in_ok-b.ensures (rw c.in_ok-collections.ensures (rw (c.in_err-conflict.ensures other) refl))))

pub returns-in_err-partial : goal.returns-in_err-partial
unfolding pair_values
returns-in_err-partial c =
    refused (pair_values c.args.sections.now c.args.section.now c.args.name.now c.args.entries.now) c.from_residual-in_err-partial.result c.in_err-partial.field-0.0 c.from_residual-in_err-partial.ensures.1
    (λ other. rw c.in_ok-a.ensures (rw c.in_ok-b.ensures (rw c.in_ok-collections.ensures (rw c.in_ok-conflict.ensures (rw (sym c.in_err-partial.ensures) refl)))))

pub returns-in_err-metadata : goal.returns-in_err-metadata
unfolding pair_values
returns-in_err-metadata c =
    refused (pair_values c.args.sections.now c.args.section.now c.args.name.now c.args.entries.now) c.from_residual-in_err-metadata.result c.in_err-metadata.field-0.0 c.from_residual-in_err-metadata.ensures.1
    (λ other. rw c.in_ok-a.ensures (rw c.in_ok-b.ensures (rw c.in_ok-collections.ensures (rw c.in_ok-conflict.ensures (rw (sym c.in_ok-partial.ensures) (rw (c.in_err-metadata.ensures other) refl))))))

pub returns : goal.returns
unfolding pair_values
returns c = rw c.in_ok-a.ensures (rw c.in_ok-b.ensures (rw c.in_ok-collections.ensures (rw c.in_ok-conflict.ensures (rw (sym c.in_ok-partial.ensures) (rw c.in_ok-metadata.ensures (rw c.in_ok-digest.ensures (rw c.in_ok-copy_of.ensures refl)))))))
