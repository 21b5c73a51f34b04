-- Laws that the proofs of this crate share.
pub mod Folds
pub mod Entries
pub mod Steps
pub mod Checks
