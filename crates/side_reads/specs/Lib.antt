pub mod Places
pub mod Holdings
