pub mod Noting
pub mod Writing
