-- The laws of the clock word, which callers may rest on.
pub mod Laws
