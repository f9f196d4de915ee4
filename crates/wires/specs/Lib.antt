pub mod Exchanges
pub mod Plays
pub mod Sites
pub mod WireCalls
