-- A tape that comes in parts (Parts), the statement of each public function with its one answer (Promises), what callers may rest on (Steps),
-- and what a host of the functions does (Host).
pub mod Parts
pub mod Promises
pub mod Steps
pub mod Host
