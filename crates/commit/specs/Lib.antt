-- What the code of Advance is stated by, beside the rules (Steps), and what Advance and Abandon promise (Promises).
pub mod Steps
pub mod Promises
