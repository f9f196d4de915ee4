pub mod ChildCalls
pub mod Children
pub mod Plays
