pub mod Lines
pub mod Ends
pub mod Whole
pub mod Ready
pub mod Promise
pub mod Reading
pub mod Settled
pub mod Quiet
