pub mod Chains
pub mod Founds
pub mod Named
pub mod Parts
pub mod Rests
pub mod ByName
