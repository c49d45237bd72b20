pub mod Evaluating
pub mod Altering
pub mod Collecting
pub mod Going
