-- Laws that more than one function's proof rests on.
pub mod Running
pub mod Wholes
pub mod Shifted
