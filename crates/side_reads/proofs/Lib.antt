pub mod PlaceLemmas
pub mod HoldingLemmas
