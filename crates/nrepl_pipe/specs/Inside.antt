-- How the code is seen and kept. Nobody has to believe these: they say what contracts say of the
-- code, and proofs, and none of the rules.
pub mod Fresh
pub mod Parts
pub mod OneTenant
