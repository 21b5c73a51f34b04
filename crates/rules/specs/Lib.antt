-- Document 01 as definitions, to be read in this order. After them, proved: the laws of reading and changing a place (Places);
-- in proofs/, what the definitions come to at their limits (Limits), and where the commit time lies (CommitTime).
pub mod Tests
pub mod Layout
pub mod Numbers
pub mod Answers
pub mod Tables
pub mod Lent
pub mod Refusals
pub mod Plan
pub mod Work
pub mod Advance
pub mod Calls
pub mod Places
