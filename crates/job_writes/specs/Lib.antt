pub mod Writings
pub mod Faults
pub mod Knowns
