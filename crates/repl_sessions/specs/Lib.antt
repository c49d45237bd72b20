pub mod Ids
pub mod State
pub mod Sessions
pub mod Named
pub mod Inside
