use Rattle.std.proofs.Common.{sym, refl, rules, arith}
use Rattle.http_client.proofs.Rests.{part_some, part_within}
use Rattle.http_client.proofs.head.find_head.Goals as goal

pub returns-in-Some-parse_part-clause-found : goal.returns-in-Some-parse_part-clause-found
returns-in-Some-parse_part-clause-found c = record {
  end = c.in-Some.end;
  end_is = sym c.in-Some.ensures.value;
  part_is = refl;
  room = first_of (search rules, omega arith);
  has = c.in-Some-parse_part.ensures;
}

pub returns-in-Some-parse_part-clause-within : goal.returns-in-Some-parse_part-clause-within
returns-in-Some-parse_part-clause-within c =
    part_within c.args.bytes.now c.in-Some.end c.parse_part.new.spans c.in-Some-parse_part.spans c.in-Some-parse_part.ensures

pub returns-in-Some-parse_part-clause-some : goal.returns-in-Some-parse_part-clause-some
returns-in-Some-parse_part-clause-some c =
    part_some _ c.parse_part.new.spans c.in-Some-parse_part.spans c.in-Some-parse_part.ensures
