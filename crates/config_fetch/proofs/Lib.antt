pub mod WalkLemmas
pub mod FetchLemmas
