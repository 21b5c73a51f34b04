-- The proofs of specs/, from the ground up.
-- Tests and counts; the invariant (InOrder) and the laws of its parts: records named, words answered, rows, the plan
pub mod Tests
pub mod Count
pub mod InOrder
pub mod Named
pub mod Script
pub mod Rows
pub mod WithinPlan
-- what one call does to one row (Steps), call by call, and any call (Effects)
pub mod Steps
pub mod Freed
pub mod Further
pub mod Moves
pub mod Inserted
pub mod Edits
pub mod Opens
pub mod Begin
pub mod Effects
-- the theorems
pub mod Reached
pub mod Observed
pub mod Invariants
pub mod FairShare
pub mod Life
pub mod Refusals
pub mod Progress
pub mod Ending
pub mod Left
pub mod Storm
