-- Laws that several functions' proofs rest on.
pub mod Admitting
pub mod Searching
