pub mod Versioned
pub mod Changes
pub mod Effects
pub mod Kept
pub mod Histories
pub mod Rung
pub mod RingHistories
