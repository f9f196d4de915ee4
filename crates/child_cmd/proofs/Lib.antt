pub mod FetchLemmas
pub mod LineLemmas
pub mod ValueLemmas
pub mod WayLemmas
