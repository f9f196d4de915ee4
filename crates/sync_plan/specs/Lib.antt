pub mod JobSteps
pub mod Merging
pub mod Placing
pub mod Plans
pub mod Stories
pub mod Verdicts
