-- `boundary::ponsevran_setup` meets its contract. Assumes nothing.
use Rattle.boundary.specs.Given.{given_of}
use Rattle.boundary.proofs.ponsevran_setup.Goals as goal

pub returns : goal.returns
returns c = given_of c.setup.ensures c.told.ensures
