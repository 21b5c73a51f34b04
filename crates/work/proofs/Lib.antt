-- Laws that the proofs of this crate share.
pub mod Slides
pub mod Places
pub mod Notes
