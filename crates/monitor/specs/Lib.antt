-- What the program lends, and what its steps keep to.
pub mod Program
