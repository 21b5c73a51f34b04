-- `seats::Row::some_bad_read` meets its contract. Assumes nothing.
use Rattle.std.proofs.Common.{rules}
use Rattle.rules.specs.Refusals.{bad_read}
use Rattle.seats.proofs.Searching.{any_in_range}
use Rattle.seats.proofs.Row.some_bad_read.Goals as goal

pub returns : goal.returns
returns c = any_in_range (bad_read c.args.self.now.numbers.now c.args.records) _ _ _ _ c.any.ensures.ran (λ x b q k. search rules)
