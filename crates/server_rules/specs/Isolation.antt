-- What the laws of isolation say.
pub mod View
pub mod Privacy
pub mod Laws
