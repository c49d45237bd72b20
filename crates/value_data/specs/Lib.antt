pub mod Datum
pub mod Measures
pub mod Same
pub mod Repeats
pub mod Listed
pub mod Put
pub mod Keyed
pub mod Inside
