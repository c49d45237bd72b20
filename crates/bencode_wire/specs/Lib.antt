pub mod Tree
pub mod Spelling
pub mod Fault
pub mod Stream
pub mod TokenPart
pub mod Inside
