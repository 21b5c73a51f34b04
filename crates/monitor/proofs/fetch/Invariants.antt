use Rattle.std.proofs.Common.{◌≡◌, take}
use Rattle.monitor.proofs.fetch.Given as goal

-- what waits stays
abbrev pub invariant-loop : goal.invariant-loop
invariant-loop l = take l.waiting l.buf ≡ take l.waiting l.initial.buf
