use Rattle.std.proofs.Common.{◌*◌, ◌≤◌, ◌≡◌}
use Rattle.rules.specs.Tests.{sum_to}
use Rattle.rules.specs.Layout.{owners, seat_count, share}
use Rattle.rules.specs.Plan.{bad_share}
use Rattle.rows.specs.Search.{Passed}
use Rattle.plan.proofs.is_bad_plan.Given as goal

abbrev pub invariant-loop-o : goal.invariant-loop-o
invariant-loop-o l = Passed (bad_share l.plan) owners l.o × (l.sum ≡ sum_to (share l.plan) l.o) × (l.sum ≤ seat_count * l.o)
