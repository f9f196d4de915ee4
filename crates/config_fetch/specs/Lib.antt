pub mod Walks
pub mod Fetches
pub mod Filling
