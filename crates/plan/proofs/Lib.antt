-- Laws that the proofs of this crate share.
pub mod Plans
pub mod Counted
pub mod Start
