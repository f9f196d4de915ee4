use Rattle.std.proofs.Common.{◌≡◌, ◌<◌, length, arith, rules}
use borrow.Author.Tests.{tests}
use Rattle.multistatus.specs.Reader.{state_of}
use Rattle.multistatus.proofs.Readings.{no_token, no_step, reading_next, reading_last}
use Rattle.multistatus.proofs.multistatus.rows_of_body.Goals as goal

pub returns-in-Err : goal.returns-in-Err
returns-in-Err c =
    let some : 0 < length c.tokens.rest.now = first_of (search (rules, tests), grind (arith, tests), omega arith) in
    no_token c.args.body.now c.tokens.rest.now (state_of c.tokens.reader) c.in-Err.error c.tokens.invariant.1 some c.in-Err.ensures.found

pub returns-in-Err-behind : goal.returns-in-Err-behind
returns-in-Err-behind c =
    let some : 0 < length c.tokens.rest.now = first_of (search (rules, tests), grind (arith, tests), omega arith) in
    no_step c.args.body.now c.tokens.rest.now c.in-Ok.found.1.now (state_of c.tokens.reader) c.in-Ok.found.0 c.in-Err-behind.error c.tokens.invariant.1 some c.in-Ok.ensures.found c.in-Err-behind.ensures

pub tokens-preserved : goal.tokens-preserved
tokens-preserved c =
    let some : 0 < length c.tokens.rest.now = first_of (search (rules, tests), grind (arith, tests), omega arith) in
    (search rules, reading_next c.args.body.now c.tokens.rest.now c.in-Ok.found.1.now (state_of c.tokens.reader) (state_of c.in-Ok-behind.next) c.in-Ok.found.0 c.tokens.invariant.1 some c.in-Ok.ensures.found c.in-Ok-behind.ensures)

pub returns : goal.returns
returns c =
    let none : length c.tokens.rest.now ≡ 0 = first_of (search (rules, tests), grind (arith, tests), omega arith) in
    reading_last c.args.body.now c.tokens.rest.now (state_of c.tokens.reader) c.rows_at_end.result c.tokens.invariant.1 none c.rows_at_end.ensures
