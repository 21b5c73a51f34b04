-- 'The tape and its program': every byte that a tape prints (Lines), how a run goes on (Runs), what the inner functions leave (Inner), the statement
-- of each public function with its one answer (Promises), and what callers may rest on (Room).
pub mod Lines
pub mod Runs
pub mod Inner
pub mod Promises
pub mod Room
