-- `Line::head` meets its contract. Assumes nothing.
use Rattle.std.proofs.Common.{◌+◌, ◌≤◌, arith, length}
use Rattle.text.specs.Text.{width_of}
use Rattle.text.specs.Puts.{length-decimal}
use Rattle.text.proofs.Laws.{length_number, put_both}
use Rattle.text.proofs.Line.head.Goals as goal
use Rattle.text.proofs.Line.head.Goals.{In-Some}

room : (c : In-Some) → let line = c.args.self.now in line.at + width_of c.in-Some.n + 1 ≤ length line.out.now
room c = omega (arith, rw c.in-Some.is at c.requires, length_number c.in-Some.n 32)

pub number-requires : goal.number-requires
number-requires c = omega (arith, room (goal.at.number-requires c).In-Some)

pub bytes-requires : goal.bytes-requires
bytes-requires c = omega (arith, room (goal.at.bytes-requires c).In-Some, c.number.ensures.text, length-decimal c.in-Some.n)

pub returns-in-Some-clause-text : goal.returns-in-Some-clause-text
returns-in-Some-clause-text c = rw c.in-Some.is (put_both c.number.ensures.text c.bytes.ensures.text)
