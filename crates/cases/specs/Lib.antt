-- P1 to P10 as one table, and Tape X (Cases), by way of a count that computes quicker (Quick).
pub mod Quick
pub mod Cases
