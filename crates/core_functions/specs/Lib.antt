pub mod ApplyOutcome
pub mod Meaning
pub mod Names
pub mod StoreNames
pub mod Inside
