-- What a line of text is (Text), what callers may rest on (Puts), what the inner functions ask for and leave (Inner), what each public function
-- promises (Promises), what it is to read a number back (ReadBack; that it has one text, which says it, is in proofs/ReadBack), and some computed (Cases).
pub mod Text
pub mod Puts
pub mod Inner
pub mod Promises
pub mod ReadBack
pub mod Cases
