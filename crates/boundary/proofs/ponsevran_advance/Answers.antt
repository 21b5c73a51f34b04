-- `boundary::ponsevran_advance` meets its contract. Assumes nothing.
use Rattle.boundary.specs.Given.{given_of}
use Rattle.boundary.proofs.ponsevran_advance.Goals as goal

pub returns : goal.returns
returns c = given_of c.advance.ensures c.told.ensures
