pub mod TakenLemmas
pub mod SideLemmas
pub mod StepLemmas
pub mod NamedLemmas
pub mod HeldLemmas
