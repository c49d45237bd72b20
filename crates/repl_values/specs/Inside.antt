-- How the code is seen and kept. Nobody has to believe these: they say what contracts say of the
-- code, and proofs, and none of the rules.
pub mod Parts
pub mod Style
pub mod FaultView
pub mod Rows
pub mod RowView
