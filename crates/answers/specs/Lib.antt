-- How an answer's word is spelled (Spelling), and what each public function promises (Promises).
pub mod Spelling
pub mod Promises
