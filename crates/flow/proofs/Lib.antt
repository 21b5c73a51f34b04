-- Laws that the proofs of several functions rest on (Fronts), THE THEOREM (Stream), and what it says of the functions (Hosts).
pub mod Fronts
pub mod Stream
pub mod Hosts
