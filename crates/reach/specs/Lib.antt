-- Demand 1, 'nobody's storm takes another's seat', and all that holds from Setup on: the statements, without proof. Their proofs are in proofs/.
-- What is spoken of (Reached, Counts), then what is promised: what each answer leaves (Left), fair shares (FairShare), a transaction's life (Life),
-- every refusal exactly when it is due (Refusals), that nothing given or sealed is kept waiting by one (Progress),
-- what the tables hold at all times (Invariants), and the document's case of two owners (Storm).
pub mod Reached
pub mod Counts
pub mod Left
pub mod FairShare
pub mod Life
pub mod Refusals
pub mod Progress
pub mod Invariants
pub mod Storm
