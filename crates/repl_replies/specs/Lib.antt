pub mod Description
pub mod Fields
pub mod OperationNames
pub mod Operations
pub mod Replies
pub mod Inside
