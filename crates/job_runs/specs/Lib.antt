pub mod Courses
pub mod Taken
pub mod Writes
pub mod Jobs
pub mod Named
pub mod Held
