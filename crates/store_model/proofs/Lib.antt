pub mod Moments
pub mod Lacks
pub mod NameLemmas
pub mod Once
pub mod Waits
pub mod Known
