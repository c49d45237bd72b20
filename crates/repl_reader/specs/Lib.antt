pub mod Fault
pub mod Text
pub mod Token
pub mod Reading
pub mod Maps
pub mod Grammar
pub mod Inside
