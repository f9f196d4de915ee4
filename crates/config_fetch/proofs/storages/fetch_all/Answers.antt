use Rattle.std.proofs.Common.{◌≡◌, ◌≤◌, ◌∷◌, ◌++◌, [], length, inl, arith}
use Rattle.std.proofs.Math.ListN.{drop_of_length-le}
use Rattle.config_model.proofs.Rests.{rest_is}
use Rattle.config_fetch.proofs.WalkLemmas.{none_yet, one_more, stopped, all_done}
use Rattle.config_fetch.proofs.storages.fetch_all.Goals as goal

pub loop-storage-init : goal.loop-storage-init
loop-storage-init g c = record {
  len = omega (arith, c.in-Ok.ensures.len);
  room = c.in-Ok.ensures.capacity;
  so_far = none_yet c.in-Ok.ensures.items;
}

pub loop-storage-preserved : goal.loop-storage-preserved
loop-storage-preserved g c =
    let items : c.push.new.self.items ≡ c.loop-storage.filled.items ++ c.in-Ok-fetch_used.storage ∷ [] = rw c.unwrap.ensures at c.push.ensures.items in
    record {
      len = omega (arith, c.loop-storage.invariant.len, c.push.ensures.upper_bound);
      room = omega (arith, c.loop-storage.invariant.room, c.push.ensures.capacity);
      so_far = one_more c.loop-storage.invariant.so_far (rest_is c.args.storages.now c.loop-storage.storage-index c.storage-item.result c.loop-storage-test.true c.storage-item.is) items c.in-Ok-fetch_used.ensures;
    }

pub returns-in-Err-fetch_used : goal.returns-in-Err-fetch_used
returns-in-Err-fetch_used g c =
    inl (stopped c.loop-storage.invariant.so_far (rest_is c.args.storages.now c.loop-storage.storage-index c.storage-item.result c.loop-storage-test.true c.storage-item.is) c.in-Err-fetch_used.ensures)

pub returns : goal.returns
returns g c =
    let past : length c.args.storages.now ≤ c.loop-storage.storage-index = omega arith in
    rw c.of.ensures (all_done c.loop-storage.invariant.so_far (drop_of_length-le c.args.storages.now past))
