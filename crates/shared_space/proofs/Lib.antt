pub mod Results
pub mod Traces
pub mod Holding
pub mod Leading
