pub mod Escapes
pub mod Inside
pub mod Joining
pub mod Places
pub mod Lists
pub mod Values
