-- How the code is seen and kept. Nobody has to believe these: they say what contracts say of the
-- code, and proofs, and none of the rules.
pub mod CodedNodes
pub mod Code
pub mod Held
pub mod Hash
pub mod Order
pub mod View
pub mod Ends
pub mod Placed
pub mod Index
pub mod Fits
pub mod Changes
pub mod Nodes
pub mod Falls
pub mod Seen
pub mod BuiltView
