pub mod Cells
pub mod Memories
pub mod Answers
pub mod Acting
pub mod Rooms
pub mod Sends
pub mod Asking
pub mod Promises
