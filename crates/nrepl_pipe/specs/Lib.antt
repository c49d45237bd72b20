pub mod Failing
pub mod Schedule
pub mod Reads
pub mod Ports
pub mod Served
pub mod Status
pub mod Inside
