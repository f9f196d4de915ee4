pub mod Numbers
pub mod ArgumentsLaws
