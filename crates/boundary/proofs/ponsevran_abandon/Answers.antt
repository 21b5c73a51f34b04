-- `boundary::ponsevran_abandon` meets its contract. Assumes nothing.
use Rattle.boundary.specs.Given.{given_of}
use Rattle.boundary.proofs.ponsevran_abandon.Goals as goal

pub returns : goal.returns
returns c = given_of c.abandon.ensures c.told.ensures
