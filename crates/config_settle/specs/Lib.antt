pub mod Links
pub mod Paths
pub mod Settling
pub mod Texts
