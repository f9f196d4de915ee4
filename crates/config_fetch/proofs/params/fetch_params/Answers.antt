use Rattle.std.proofs.Common.{◌≡◌, ◌≤◌, ◌∷◌, ◌++◌, [], length, inl, arith}
use Rattle.std.proofs.Math.ListN.{drop_of_length-le}
use Rattle.config_model.proofs.Rests.{rest_is}
use Rattle.config_fetch.proofs.WalkLemmas.{none_yet, one_more, stopped, all_done}
use Rattle.config_fetch.proofs.params.fetch_params.Goals as goal

pub loop-param-init : goal.loop-param-init
loop-param-init g c = record {
  len = omega (arith, c.in-Ok.ensures.len);
  room = c.in-Ok.ensures.capacity;
  so_far = none_yet c.in-Ok.ensures.items;
}

pub loop-param-preserved : goal.loop-param-preserved
loop-param-preserved g c =
    let items : c.push.new.self.items ≡ c.loop-param.filled.items ++ c.in-Ok-fetch_param.param ∷ [] = rw c.unwrap.ensures at c.push.ensures.items in
    record {
      len = omega (arith, c.loop-param.invariant.len, c.push.ensures.upper_bound);
      room = omega (arith, c.loop-param.invariant.room, c.push.ensures.capacity);
      so_far = one_more c.loop-param.invariant.so_far (rest_is c.args.params.now c.loop-param.param-index c.param-item.result c.loop-param-test.true c.param-item.is) items c.in-Ok-fetch_param.ensures;
    }

pub returns-in-Err-fetch_param : goal.returns-in-Err-fetch_param
returns-in-Err-fetch_param g c =
    inl (stopped c.loop-param.invariant.so_far (rest_is c.args.params.now c.loop-param.param-index c.param-item.result c.loop-param-test.true c.param-item.is) c.in-Err-fetch_param.ensures)

pub returns : goal.returns
returns g c =
    let past : length c.args.params.now ≤ c.loop-param.param-index = omega arith in
    rw c.of.ensures (all_done c.loop-param.invariant.so_far (drop_of_length-le c.args.params.now past))
