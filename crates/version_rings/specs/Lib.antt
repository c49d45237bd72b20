pub mod Versions
pub mod Rings
pub mod Inside
