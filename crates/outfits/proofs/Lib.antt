pub mod PlacedLemmas
pub mod SlotLemmas
