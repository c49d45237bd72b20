-- Runs of the rules that the prover computes, so that they are seen to mean something. The claims
-- need none of them.
pub mod Messages
pub mod Tables
pub mod Runs
pub mod Results
