pub mod Stepping
pub mod Laters
pub mod Noting
pub mod Printing
pub mod Swapping
pub mod Sent
pub mod Taking
