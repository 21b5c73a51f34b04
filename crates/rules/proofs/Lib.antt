-- What the definitions of document 01 come to at their limits, and where the commit time lies.
pub mod Limits
pub mod CommitTime
