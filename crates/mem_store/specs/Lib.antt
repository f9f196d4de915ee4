pub mod Memory
pub mod MemCalls
pub mod Desks
