pub mod Quotients
pub mod IntegerValues
pub mod PredicateValues
pub mod Shortness
