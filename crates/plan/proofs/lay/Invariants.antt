use Rattle.std.proofs.Common.{◌≡◌}
use Rattle.rules.specs.Plan.{laid}
use Rattle.plan.proofs.lay.Given as goal

abbrev pub invariant-loop-i : goal.invariant-loop-i
invariant-loop-i l = l.seats ≡ laid l.initial.seats l.plan l.i
