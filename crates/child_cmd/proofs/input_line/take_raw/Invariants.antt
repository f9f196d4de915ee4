use Rattle.std.proofs.Common.{◌≡◌, ◌≤◌, ◌-◌, ◌++◌, vec_len, vec_capacity}
use Rattle.child_cmd.specs.InputLines.{HasNoFeed}
use Rattle.child_cmd.specs.declared.input_line.TheConstants.{ROOM}
use Rattle.child_cmd.proofs.input_line.take_raw.Given as goal

-- a front without a line feed is taken
abbrev pub invariant-bytes : goal.invariant-bytes
invariant-bytes g l = record {
  room : ROOM ≤ vec_capacity l.bytes;
  few : vec_len l.bytes ≤ ROOM;
  later : g.I.Source.count l.fn.input ≤ g.I.Source.count l.input;
  told : g.I.Source.tells l.fn.input → g.I.Source.tells l.input × (g.I.Source.left l.fn.input ≡ l.bytes.items ++ g.I.Source.left l.input) × HasNoFeed l.bytes.items;
}

abbrev pub decreases-bytes : goal.decreases-bytes
decreases-bytes g l = ROOM - vec_len l.bytes
