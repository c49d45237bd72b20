pub mod SequenceNames
pub mod Pairs
pub mod SequenceMeaning
pub mod MapNames
pub mod MapArguments
pub mod MapMeaning
pub mod Inside
