pub mod Held
pub mod Nodes
pub mod Falls
pub mod Changes
pub mod Places
