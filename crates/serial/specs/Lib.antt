-- Demand 3, the serial order: what is promised (Statement), that the order is the one that is meant (Order), and examples, computed (Cases).
-- The proofs are in proofs/.
pub mod Statement
pub mod Order
pub mod Cases
