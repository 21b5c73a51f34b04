-- Laws that more than one function's proof rests on.
pub mod Lending
pub mod Turning
