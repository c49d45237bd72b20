pub mod History
pub mod Lasts
pub mod Keys
pub mod Knowledge
pub mod View
pub mod Reached
