mod Committing
mod Lifting
mod Memory
pub mod Moving
mod ReadBack
mod Rising
mod Spoiling
mod Standing
mod Texts
