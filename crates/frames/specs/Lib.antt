-- A call's bytes (Decode), its kind (Kinds), and what each public function promises (Promises).
pub mod Decode
pub mod Kinds
pub mod Promises
