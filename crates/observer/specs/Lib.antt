-- The observer, to be read from top to bottom. Laws of it that both theorems rest on are in proofs/.
pub mod Observer
