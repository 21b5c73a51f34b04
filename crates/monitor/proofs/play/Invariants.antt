use Rattle.std.proofs.Common.{◌-◌}
use Rattle.turns.specs.Lent.{SameLengths}
use Rattle.monitor.specs.Program.{most_turns, Proceeds}
use Rattle.monitor.proofs.play.Given as goal

-- the flow is ready for as many turns as are to come, and the tables are as long as at first
abbrev pub invariant-loop : goal.invariant-loop
invariant-loop l = Proceeds l.f (most_turns - l.counter) × SameLengths l.initial.tables l.tables
