pub mod Journals
pub mod Alone
pub mod Keeping
pub mod Counting
pub mod FormsTold
pub mod EndsTold
pub mod Written
pub mod Spelling
