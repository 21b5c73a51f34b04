-- What one pass over the rows comes to, and what the tests after it ask for (Census); what Setup and Open promise (Promises).
pub mod Census
pub mod Promises
