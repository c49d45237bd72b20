-- How the code is seen and kept. Nobody has to believe these: they say what contracts say of the
-- code, and proofs, and none of the rules.
pub mod View
pub mod Decoder
pub mod Fronts
pub mod Cut
pub mod Beginnings
pub mod ByteEffects
pub mod ByteSteps
pub mod Sign
pub mod Reader
pub mod Course
pub mod Refusals
pub mod Nesting
pub mod State
pub mod NewKeys
pub mod Places
pub mod Undoing
pub mod GoingBack
pub mod Return
pub mod HasCome
pub mod Decoding
pub mod Gives
