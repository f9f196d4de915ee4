pub mod Fields
pub mod Keys
pub mod Meanings
pub mod Pairs
pub mod Reading
pub mod Storages
pub mod ByName
