-- Laws that the functions' proofs rest on.
pub mod ByKind
