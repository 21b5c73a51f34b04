-- `seats::find` meets its contract. Assumes nothing.
use Rattle.std.proofs.Common.{ℕ, Bool, rules, eqb, get_or, ◌+◌, ◌*◌}
use Rattle.seats.proofs.Searching.{found_in_range}
use Rattle.seats.proofs.find.Goals as goal

pub returns : goal.returns
returns c =
    let names : ℕ → Bool = λ i. eqb (get_or c.args.row.now (c.args.first + c.args.width * i) 0) c.args.item in
    found_in_range names _ _ _ _ c.find.ensures.ran (λ x b q k. search rules)
