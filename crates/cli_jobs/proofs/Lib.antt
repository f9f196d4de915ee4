pub mod Settled
pub mod Folders
pub mod JobLists
