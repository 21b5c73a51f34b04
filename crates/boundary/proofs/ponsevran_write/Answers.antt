-- `boundary::ponsevran_write` meets its contract. Assumes nothing.
use Rattle.boundary.specs.Given.{given_of}
use Rattle.boundary.proofs.ponsevran_write.Goals as goal

pub returns : goal.returns
returns c = given_of c.write.ensures c.told.ensures
