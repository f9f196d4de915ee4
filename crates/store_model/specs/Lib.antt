pub mod Sides
pub mod StoreCalls
pub mod Names
pub mod Waits
