pub mod Chunks
pub mod Frames
pub mod Heads
pub mod Parts
pub mod Replies
pub mod Request
pub mod Texts
