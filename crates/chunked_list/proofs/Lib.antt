pub mod Changing
pub mod Tickets
pub mod InOrder
