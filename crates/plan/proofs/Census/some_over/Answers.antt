-- `plan::Census::some_over` meets its contract. Assumes nothing.
use Rattle.std.proofs.Common.{rules}
use Rattle.rules.specs.Layout.{owners}
use Rattle.rules.specs.Plan.{over_limit}
use Rattle.seats.proofs.Searching.{any_below}
use Rattle.plan.proofs.Counted.{over_exactly}
use Rattle.plan.proofs.Census.some_over.Goals as goal

pub returns : goal.returns
returns c =
    let seats = c.args.self.now.seats.now in
    any_below (over_limit seats) owners _ _ _ c.any.ensures.ran
    (λ o b q k. (search rules, λ l. over_exactly seats c.args.self.now.sound.counts_are o l (search rules)))
