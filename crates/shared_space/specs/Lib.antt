pub mod Told
pub mod Holding
pub mod Telling
pub mod Loaded
