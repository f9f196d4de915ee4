pub mod ReadLemmas
pub mod TookLemmas
