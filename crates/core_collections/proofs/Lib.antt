pub mod SequenceValues
pub mod MapValues
