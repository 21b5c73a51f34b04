-- `seats::read_of` meets its contract. Assumes nothing.
use Rattle.std.proofs.Common.{◌∙◌, ap}
use Rattle.rules.specs.Work.{read_names}
use Rattle.seats.specs.Search.{found}
use Rattle.seats.proofs.read_of.Goals as goal

pub returns : goal.returns
unfolding read_names
returns c = c.find.ensures ∙ ap (found _) c.min.ensures
