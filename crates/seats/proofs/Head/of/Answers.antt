-- `seats::Head::of` meets its contract. Assumes nothing.
use Rattle.seats.specs.Heads.{head_of}
use Rattle.seats.proofs.Head.of.Goals as goal

pub returns : goal.returns
unfolding head_of
returns c =
    simp (
      ← c.at.ensures,
      ← c.at-2.ensures,
      ← c.at-3.ensures,
      ← c.at-4.ensures,
      ← c.at-5.ensures,
      ← c.at-6.ensures,
    )
