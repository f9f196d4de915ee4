use Rattle.std.proofs.Common.{◌≡◌, drop}
use Rattle.config_model.specs.Reading.{parts_of}
use Rattle.config_model.proofs.Parts.{together}
use Rattle.config_model.proofs.reading.parts_of.Given as goal

abbrev pub invariant-loop-section : goal.invariant-loop-section
invariant-loop-section l = together l.parts (parts_of l.storages (drop l.section-index l.sections)) ≡ parts_of l.storages l.sections
