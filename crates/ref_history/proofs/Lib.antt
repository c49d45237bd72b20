pub mod Standing
pub mod Placed
pub mod Ringed
