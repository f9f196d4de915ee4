pub mod Answers
pub mod Names
pub mod Built
pub mod Rules
pub mod Jobs
pub mod Texts
pub mod Unfetched
