-- How the code is seen and kept. Nobody has to believe this: it says what contracts say of the
-- code, and proofs, and none of the rules.
pub mod Standing
