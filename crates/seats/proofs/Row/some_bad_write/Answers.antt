-- `seats::Row::some_bad_write` meets its contract. Assumes nothing.
use Rattle.std.proofs.Common.{rules}
use Rattle.rules.specs.Refusals.{bad_write}
use Rattle.seats.proofs.Searching.{any_in_range}
use Rattle.seats.proofs.Row.some_bad_write.Goals as goal

pub returns : goal.returns
unfolding bad_write
returns c = any_in_range (bad_write c.args.self.now.numbers.now c.args.records) _ _ _ _ c.any.ensures.ran (λ x b q k. search rules)
