pub mod FindLemmas
pub mod RowLemmas
pub mod NextLemmas
