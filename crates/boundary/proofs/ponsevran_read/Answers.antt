-- `boundary::ponsevran_read` meets its contract. Assumes nothing.
use Rattle.boundary.specs.Given.{given_of}
use Rattle.boundary.proofs.ponsevran_read.Goals as goal

pub returns : goal.returns
returns c = given_of c.read.ensures c.told.ensures
