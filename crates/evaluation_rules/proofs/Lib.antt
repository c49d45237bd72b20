pub mod Awaited
pub mod Options
pub mod Taken
