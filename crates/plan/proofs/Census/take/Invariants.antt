use Rattle.rules.specs.Layout.{seat_count}
use Rattle.rules.specs.Plan.{bad_row}
use Rattle.rows.specs.Search.{Passed}
use Rattle.plan.specs.Census.{Counts, Lowest}
use Rattle.plan.proofs.Census.take.Given as goal

abbrev pub invariant-loop-i : goal.invariant-loop-i
invariant-loop-i l = Passed (bad_row l.seats) seat_count l.i × Counts l.seats l.held l.i × Lowest l.seats l.i l.free
