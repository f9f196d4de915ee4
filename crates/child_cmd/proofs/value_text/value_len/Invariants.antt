use Rattle.std.proofs.Common.{◌≡◌, ◌≤◌, take, length}
use Rattle.child_cmd.specs.Values.{value_of}
use Rattle.child_cmd.proofs.value_text.value_len.Given as goal

-- all behind this are LF and CR
abbrev pub invariant-ends : goal.invariant-ends
invariant-ends l = record {
  inside : l.end ≤ length l.bytes;
  same : value_of (take l.end l.bytes) ≡ value_of l.bytes;
}

abbrev pub decreases-ends : goal.decreases-ends
decreases-ends l = l.end
