-- The clock word: its meaning (Word), all that is to be known of a word (Laws; the laws themselves are in proofs/Laws), what each public
-- function promises (Promises), the worked cases P1 to P4 (Cases).
pub mod Word
pub mod Laws
pub mod Promises
pub mod Cases
