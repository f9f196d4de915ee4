use Rattle.std.proofs.Common.{◌≡◌, map, take}
use Rattle.store_model.specs.StoreCalls.{Changes, IsGetOf}
use Rattle.vdir_store.specs.VdirCalls.{GetSoFar}
use Rattle.mem_store.specs.Desks.{desk_side, waiting_of, count_of, IsSound}
use Rattle.mem_store.proofs.calls.fetch_all.Given as goal

-- the hrefs so far gave what is fetched
abbrev pub invariant-loop-href : goal.invariant-loop-href
invariant-loop-href l = record {
  changes : Changes count_of IsSound desk_side (IsGetOf l.hrefs) l.fn.desk l.desk;
  asked : map (λ f. f.href) l.fetched.items ≡ take l.href-index l.hrefs;
  waiting : waiting_of l.desk ≡ waiting_of l.fn.desk;
  so_far : IsSound l.fn.desk → GetSoFar (take l.href-index l.hrefs) l.fetched.items (desk_side l.fn.desk) (desk_side l.desk);
}
