pub mod Frames
pub mod UnderWay
pub mod Pending
pub mod Position
pub mod Size
pub mod Leaving
