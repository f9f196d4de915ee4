pub mod CallLemmas
pub mod CauseLemmas
pub mod OrderLemmas
pub mod FaultLemmas
pub mod KnownLemmas
