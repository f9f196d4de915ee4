use Rattle.std.proofs.Common.{◌≡◌, ◌≢◌, sym, ◌<◌, length, get_or, arith}
use Rattle.http_client.proofs.EmptyLines.{empty_onward, empty_found, begins-other, begins-none, begins-some}
use Rattle.http_client.proofs.frames.empty_line_end.Goals as goal

pub loop-at-preserved-then-bytes-at-ne10 : goal.loop-at-preserved-then-bytes-at-ne10
loop-at-preserved-then-bytes-at-ne10 c =
    let lt : c.loop-at.at < length c.args.bytes.now = omega arith in
    let other : get_or c.args.bytes.now c.loop-at.at 0 ≢ 10 = omega arith in
    empty_onward c.args.bytes.now c.loop-at.at _ lt c.loop-at.invariant (begins-other c.args.bytes.now c.loop-at.at other)

pub loop-at-preserved : goal.loop-at-preserved
loop-at-preserved c =
    let lt : c.loop-at.at < length c.args.bytes.now = omega arith in
    let lf : get_or c.args.bytes.now c.loop-at.at 0 ≡ 10 = omega arith in
    empty_onward c.args.bytes.now c.loop-at.at _ lt c.loop-at.invariant
    (begins-none c.args.bytes.now c.loop-at.at lf (sym c.in-None.ensures.value))

pub returns-in-Some-clause-value : goal.returns-in-Some-clause-value
returns-in-Some-clause-value c =
    let lt : c.loop-at.at < length c.args.bytes.now = omega arith in
    let lf : get_or c.args.bytes.now c.loop-at.at 0 ≡ 10 = omega arith in
    empty_found c.args.bytes.now c.loop-at.at c.in-Some.len _ lt c.loop-at.invariant
    (begins-some c.args.bytes.now c.loop-at.at c.in-Some.len lf (sym c.in-Some.ensures.value))
