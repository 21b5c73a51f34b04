-- `answers::spell` meets its contract: each case by computation. Assumes nothing.
use Rattle.std.proofs.Common.{sym, ap}
use Rattle.answers.specs.Spelling.{letters_of}
use Rattle.answers.proofs.spell.Goals as goal

pub returns-in-Ready : goal.returns-in-Ready
returns-in-Ready c = sym (ap letters_of c.in-Ready.is)

pub returns-in-Seat : goal.returns-in-Seat
returns-in-Seat c = sym (ap letters_of c.in-Seat.is)

pub returns-in-Value : goal.returns-in-Value
returns-in-Value c = sym (ap letters_of c.in-Value.is)

pub returns-in-Noted : goal.returns-in-Noted
returns-in-Noted c = sym (ap letters_of c.in-Noted.is)

pub returns-in-Locked : goal.returns-in-Locked
returns-in-Locked c = sym (ap letters_of c.in-Locked.is)

pub returns-in-Timed : goal.returns-in-Timed
returns-in-Timed c = sym (ap letters_of c.in-Timed.is)

pub returns-in-Checked : goal.returns-in-Checked
returns-in-Checked c = sym (ap letters_of c.in-Checked.is)

pub returns-in-Sealed : goal.returns-in-Sealed
returns-in-Sealed c = sym (ap letters_of c.in-Sealed.is)

pub returns-in-Stored : goal.returns-in-Stored
returns-in-Stored c = sym (ap letters_of c.in-Stored.is)

pub returns-in-Done : goal.returns-in-Done
returns-in-Done c = sym (ap letters_of c.in-Done.is)

pub returns-in-Dropped : goal.returns-in-Dropped
returns-in-Dropped c = sym (ap letters_of c.in-Dropped.is)

pub returns-in-Refused : goal.returns-in-Refused
returns-in-Refused c = sym (ap letters_of c.in-Refused.is)

pub returns-in-Aborted : goal.returns-in-Aborted
returns-in-Aborted c = sym (ap letters_of c.in-Aborted.is)
