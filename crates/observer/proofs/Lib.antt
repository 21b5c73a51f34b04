-- Laws of the observer that both theorems rest on: what a change and a refusal show (Changes), and that a Read or Write shows of a seat
-- what its row then holds (Segments to Shows).
pub mod Changes
pub mod Segments
pub mod Entries
pub mod Folds
pub mod Shows
