pub mod Children
pub mod Places
pub mod Slots
