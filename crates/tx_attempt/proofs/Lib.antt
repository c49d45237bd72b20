pub mod Names
pub mod Listed
pub mod Stated
pub mod Noting
pub mod TakenOut
pub mod Wanted
