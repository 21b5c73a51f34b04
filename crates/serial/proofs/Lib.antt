-- The proofs of specs/: the order, then a protocol without tables (Timeline to Final), then that the rules' calls, as an observer sees them,
-- are its steps (View to Storing), and the theorem.
pub mod Order
pub mod Timeline
pub mod Protocol
pub mod Growth
pub mod Versions
pub mod Seal
pub mod Steps
pub mod Final
pub mod View
pub mod Agree
pub mod Release
pub mod Working
pub mod Locking
pub mod Checking
pub mod Storing
pub mod Theorem
