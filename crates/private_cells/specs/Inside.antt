-- How the code is seen and kept. Nobody has to believe these: they say what contracts say of the
-- code, and proofs, and none of the rules.
pub mod View
pub mod Seen
pub mod Counted
pub mod Turns
pub mod Sender
pub mod Kept
pub mod Changes
