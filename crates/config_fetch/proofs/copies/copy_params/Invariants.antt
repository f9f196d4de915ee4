use Rattle.std.proofs.Common.{◌≡◌, take}
use Rattle.config_fetch.proofs.copies.copy_params.Given as goal

-- what is copied so far
abbrev pub invariant-loop-param : goal.invariant-loop-param
invariant-loop-param l = l.copied.items ≡ take l.param-index l.params
