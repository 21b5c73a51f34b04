-- What the code of this crate is stated by, beside the rules, with its laws: a row's head, and the admission of a call (Heads);
-- a row as a part of a table (RowPart); its entries (Entries); what a search finds (Search); what a call knows once it is admitted (Ready), and what its proof
-- puts together (Outcomes); what each public function promises (Promises).
pub mod Heads
pub mod RowPart
pub mod Entries
pub mod Search
pub mod Ready
pub mod Outcomes
pub mod Promises
