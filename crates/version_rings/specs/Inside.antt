pub mod Nodes
pub mod Parts
pub mod Listed
pub mod Sound
pub mod Table
pub mod Seen
