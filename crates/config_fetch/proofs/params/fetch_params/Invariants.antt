use Rattle.std.proofs.Common.{◌≤◌, drop, length}
use Rattle.std.specs.Prelude.{vec_len, vec_capacity}
use Rattle.config_fetch.specs.Fetches.{FetchedBy, ParamStep, devices}
use Rattle.config_fetch.proofs.WalkLemmas.{SoFar}
use Rattle.config_fetch.proofs.params.fetch_params.Given as goal

-- each text so far stands, and there is room for the rest
abbrev pub invariant-loop-param : goal.invariant-loop-param
invariant-loop-param g l = record {
  len : vec_len l.filled ≤ l.param-index;
  room : length l.params ≤ vec_capacity l.filled;
  so_far : SoFar (ParamStep (FetchedBy g.C.Spawner.count g.C.Spawner.tells g.C.Spawner.state g.I.Source.count g.I.Source.tells g.I.Source.left g.E.Sink.count g.E.Sink.tells g.E.Sink.held) l.section) (devices l.fn.child l.fn.input l.fn.err) (devices l.child l.input l.err) l.params (drop l.param-index l.params) l.filled.items;
}
