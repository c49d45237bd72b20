pub mod AmongMany
pub mod Beginning
pub mod Behind
pub mod Walking
pub mod Turning
pub mod Giving
pub mod Alone
pub mod Attempts
