pub mod Beginnings
pub mod Adding
pub mod Telling
pub mod Seeing
pub mod Entries
pub mod Knowing
