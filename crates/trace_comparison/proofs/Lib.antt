pub mod Matching
pub mod Parting
pub mod Sequences
