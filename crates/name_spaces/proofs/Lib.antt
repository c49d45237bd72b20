pub mod Placing
pub mod Texts
