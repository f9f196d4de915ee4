pub mod ViewLemmas
pub mod SameLemmas
