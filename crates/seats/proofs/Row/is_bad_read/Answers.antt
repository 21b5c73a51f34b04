-- `seats::Row::is_bad_read` meets its contract. Assumes nothing.
use Rattle.std.proofs.Common.{le-leb}
use Rattle.std.proofs.lemmas.Bool.{lt-leb}
use Rattle.rules.specs.Tests.{one_of}
use Rattle.rules.specs.Refusals.{bad_read}
use Rattle.seats.specs.Entries.{is_read}
use Rattle.seats.specs.Heads.{head_is}
use Rattle.seats.proofs.Row.is_bad_read.Goals as goal

pub returns-then-records-entry : goal.returns-then-records-entry
unfolding bad_read one_of
returns-then-records-entry c =
    let entry = is_read c.args.self.now.numbers.now c.args.i c.of-entry.ensures in
    simp (← entry.item_is, le-leb _ _ c.if-records-entry.true)

pub returns-then-self-ge-CHECKING : goal.returns-then-self-ge-CHECKING
unfolding bad_read one_of
returns-then-self-ge-CHECKING c =
    let head = head_is c.args.self.now.head_is in
    let entry = is_read c.args.self.now.numbers.now c.args.i c.of-entry.ensures in
    simp (
      ← entry.item_is,
      ← entry.kept_write_is,
      ← head.phase_is,
      ← head.time_is,
      le-leb _ _ c.if-self-ge-CHECKING.true,
      lt-leb _ _ c.if-records-entry.false,
    )

pub returns-else-self-ge-CHECKING : goal.returns-else-self-ge-CHECKING
unfolding bad_read one_of
returns-else-self-ge-CHECKING c =
    let head = head_is c.args.self.now.head_is in
    let entry = is_read c.args.self.now.numbers.now c.args.i c.of-entry.ensures in
    simp (
      ← entry.item_is,
      ← head.phase_is,
      lt-leb _ _ c.if-self-ge-CHECKING.false,
      lt-leb _ _ c.if-records-entry.false,
    )
