-- How the code is seen and kept. Nobody has to believe these: they say what contracts say of the
-- code, and proofs, and none of the rules.
pub mod Keys
pub mod States
pub mod Marks
pub mod Parts
pub mod Seen
