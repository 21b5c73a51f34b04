-- `text::head_width` meets its contract. Assumes nothing.
use Rattle.std.proofs.Common.{arith}
use Rattle.text.proofs.Laws.{length_number}
use Rattle.text.proofs.head_width.Goals as goal

pub returns-in-Some : goal.returns-in-Some
returns-in-Some c =
    let w = c.width.ensures in
    rw c.in-Some.is record { is_length = omega (arith, length_number c.in-Some.n 32, w.is_width); few = omega (arith, w.most) }
