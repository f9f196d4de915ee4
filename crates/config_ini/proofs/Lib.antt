pub mod Ascii
pub mod Before
pub mod Collected
pub mod Cuts
pub mod Groups
pub mod Held
pub mod Refusals
pub mod Values
