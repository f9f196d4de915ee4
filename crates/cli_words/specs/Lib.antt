pub mod Usage
pub mod Options
pub mod Front
pub mod Arguments
pub mod Words
