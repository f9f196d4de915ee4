pub mod Fetching
pub mod InputLines
pub mod Values
pub mod Ways
