pub mod Bodies
pub mod Laws
pub mod Paths
pub mod Requests
