pub mod Remembering
pub mod Sending
pub mod Answering
pub mod Answered
