-- One turn at a tape: the tables that it is lent (Lent), what stops it (Faults), a call on the program's tables (Calls), the call's line and what
-- a turn comes to (Turns), the statement of each public function with its one answer (Promises), and what callers may rest on (Laws).
pub mod Lent
pub mod Faults
pub mod Calls
pub mod Turns
pub mod Promises
pub mod Laws
