-- `seats::write_of` meets its contract. Assumes nothing.
use Rattle.std.proofs.Common.{◌∙◌, ap}
use Rattle.rules.specs.Work.{write_names}
use Rattle.seats.specs.Search.{found}
use Rattle.seats.proofs.write_of.Goals as goal

pub returns : goal.returns
unfolding write_names
returns c = c.find.ensures ∙ ap (found _) c.min.ensures
