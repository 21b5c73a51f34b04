-- `boundary::ponsevran_open` meets its contract. Assumes nothing.
use Rattle.boundary.specs.Given.{given_of}
use Rattle.boundary.proofs.ponsevran_open.Goals as goal

pub returns : goal.returns
returns c = given_of c.«open».ensures c.told.ensures
