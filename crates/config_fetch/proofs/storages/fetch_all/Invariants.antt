use Rattle.std.proofs.Common.{◌≤◌, drop, length}
use Rattle.std.specs.Prelude.{vec_len, vec_capacity}
use Rattle.config_fetch.specs.Fetches.{FetchedBy, StorageStep, devices}
use Rattle.config_fetch.proofs.WalkLemmas.{SoFar}
use Rattle.config_fetch.proofs.storages.fetch_all.Given as goal

-- each storage so far stands, and there is room for the rest
abbrev pub invariant-loop-storage : goal.invariant-loop-storage
invariant-loop-storage g l = record {
  len : vec_len l.filled ≤ l.storage-index;
  room : length l.storages ≤ vec_capacity l.filled;
  so_far : SoFar (StorageStep (FetchedBy g.C.Spawner.count g.C.Spawner.tells g.C.Spawner.state g.I.Source.count g.I.Source.tells g.I.Source.left g.E.Sink.count g.E.Sink.tells g.E.Sink.held) l.names l.pairs) (devices l.fn.child l.fn.input l.fn.err) (devices l.child l.input l.err) l.storages (drop l.storage-index l.storages) l.filled.items;
}
