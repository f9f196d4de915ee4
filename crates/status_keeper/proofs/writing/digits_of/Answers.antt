use Rattle.std.proofs.Common.{arith}
use Rattle.status_keeper.proofs.Texts.{fp_back}
use Rattle.status_keeper.proofs.writing.digits_of.Goals as goal

pub returns-in-Ok-clause-reads : goal.returns-in-Ok-clause-reads
returns-in-Ok-clause-reads c = fp_back (record { 0 = c.args.bytes.now }) c.requires (λ k. let h = c.type_inv.bytes k in omega (arith, h))

pub returns-in-Err-clause-reads : goal.returns-in-Err-clause-reads
returns-in-Err-clause-reads c = fp_back (record { 0 = c.args.bytes.now }) c.requires (λ k. let h = c.type_inv.bytes k in omega (arith, h))
