use Rattle.std.proofs.Common.{◌∙◌, arith}
use Rattle.item_text.proofs.HexDigits.{hex_reads_back}
use Rattle.item_text.proofs.fp.hex_of.Goals as goal

pub returns-clause-reads_back : goal.returns-clause-reads_back
returns-clause-reads_back c =
    hex_reads_back c.args.bytes.now c.of.result c.requires (λ i. omega (arith, c.type_inv.bytes i)) (c.of.ensures ∙ c.in_ok-encode.ensures)
