use Rattle.std.proofs.Common.{◌≡◌, ℕ, List, ◌||◌, drop}
use Rattle.config_ini.specs.Repeats.{has}
use Rattle.config_model.specs.Reading.{is_storage}
use Rattle.config_model.proofs.reading.names_of.Given as goal

abbrev pub invariant-loop-storage : goal.invariant-loop-storage
invariant-loop-storage l = (q : List ℕ) → (has l.names.keys q || is_storage (drop l.storage-index l.storages) q) ≡ is_storage l.storages q
