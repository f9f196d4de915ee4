use Rattle.std.proofs.Common.{◌≤◌, length, Some, None, sym, arith}
use Rattle.config_ini.specs.Repeats.{has}
use Rattle.config_model.proofs.Named.{pair_by, none_lacking}
use Rattle.config_model.proofs.reading.find_first_lacking.Goals as goal

pub returns-in-Err : goal.returns-in-Err
returns-in-Err c = λ other.
    sym (pair_by (has c.args.names.now.keys) c.args.pairs.now c.loop-pair.pair-index c.pair-item.result (Some c.in-Err.error) c.loop-pair-test.true c.pair-item.is (c.in-Err.ensures other) c.loop-pair.invariant)

pub loop-pair-preserved : goal.loop-pair-preserved
loop-pair-preserved c =
    pair_by (has c.args.names.now.keys) c.args.pairs.now c.loop-pair.pair-index c.pair-item.result None c.loop-pair-test.true c.pair-item.is c.in-Ok.ensures c.loop-pair.invariant

pub returns : goal.returns
returns c =
    let over : length c.args.pairs.now ≤ c.loop-pair.pair-index = omega arith in
    none_lacking (has c.args.names.now.keys) c.args.pairs.now c.loop-pair.pair-index over c.loop-pair.invariant
