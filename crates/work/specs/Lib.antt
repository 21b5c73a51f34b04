-- What Read and Write promise (Promises), and what their steps ask of a row's entries (Entries).
pub mod Entries
pub mod Promises
