pub mod Operations
pub mod Replies
pub mod Requests
pub mod Served
