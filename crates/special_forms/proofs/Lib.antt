pub mod Rows
pub mod Sizes
pub mod Shaping
pub mod Places
