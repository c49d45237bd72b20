pub mod Changing
pub mod Turning
pub mod Keeping
pub mod Heaping
pub mod Next
pub mod Quieting
pub mod Lawful
