use Rattle.std.proofs.Common.{◌-◌, ◌≤◌, ◌≡◌}
use Rattle.rules.specs.Layout.{write_width}
use Rattle.rules.specs.Work.{slid}
use Rattle.work.specs.Entries.{with_lent_seats}
use Rattle.work.proofs.Noting.slide.Given as goal

abbrev pub invariant-loop-p : goal.invariant-loop-p
invariant-loop-p l =
    let s = l.initial.self in
    (l.from ≤ l.p) × (l.self ≡ with_lent_seats s (slid s.seats.now s.seat l.to write_width (l.to - l.p)))
