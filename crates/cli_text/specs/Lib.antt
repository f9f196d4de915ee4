pub mod Quoting
pub mod Texts
pub mod Configs
pub mod Exits
pub mod Fetches
