-- `seats::Head::is_bad` meets its contract. Assumes nothing.
use Rattle.std.specs.Prelude.{◌≡◌, ◌||◌}
use Rattle.std.proofs.Common.{le-leb, le-ltb, lt-ltb}
use Rattle.std.proofs.lemmas.Bool.{lt-leb}
use Rattle.rules.specs.Tests.{one_of}
use Rattle.rules.specs.Refusals.{misplaced, late, bad_head}
use Rattle.seats.specs.Heads.{head_row}
use Rattle.seats.proofs.Head.is_bad.Goals as goal
use Rattle.seats.proofs.Head.is_bad.Goals.{Else-self-gt-MOST_WRITES}

pub returns-then-self-gt-STORING : goal.returns-then-self-gt-STORING
unfolding bad_head head_row one_of
returns-then-self-gt-STORING c = simp (lt-ltb _ _ c.if-self-gt-STORING.true)

pub returns-then-self-ge-OWNERS : goal.returns-then-self-ge-OWNERS
unfolding bad_head head_row one_of
returns-then-self-ge-OWNERS c =
    simp (le-ltb _ _ c.if-self-gt-STORING.false, le-leb _ _ c.if-self-ge-OWNERS.true)

pub returns-then-self-gt-MOST_READS : goal.returns-then-self-gt-MOST_READS
unfolding bad_head head_row one_of
returns-then-self-gt-MOST_READS c =
    simp (le-ltb _ _ c.if-self-gt-STORING.false, lt-leb _ _ c.if-self-ge-OWNERS.false, lt-ltb _ _ c.if-self-gt-MOST_READS.true)

pub returns-then-self-gt-MOST_WRITES : goal.returns-then-self-gt-MOST_WRITES
unfolding bad_head head_row one_of
returns-then-self-gt-MOST_WRITES c =
    simp (
      le-ltb _ _ c.if-self-gt-STORING.false,
      lt-leb _ _ c.if-self-ge-OWNERS.false,
      le-ltb _ _ c.if-self-gt-MOST_READS.false,
      lt-ltb _ _ c.if-self-gt-MOST_WRITES.true,
    )

-- ITS NUMBERS IN RANGE: position and time are left
in_range : (c : Else-self-gt-MOST_WRITES) →
    let h = c.args.self in
    bad_head (head_row h) ≡ misplaced h.phase h.position h.reads h.writes || late h.phase h.time
unfolding bad_head head_row one_of
in_range c =
    simp (
      le-ltb _ _ c.if-self-gt-STORING.false,
      lt-leb _ _ c.if-self-ge-OWNERS.false,
      le-ltb _ _ c.if-self-gt-MOST_READS.false,
      le-ltb _ _ c.if-self-gt-MOST_WRITES.false,
    )

pub returns-then-is_misplaced : goal.returns-then-is_misplaced
returns-then-is_misplaced c =
    simp (in_range (goal.at.returns-then-is_misplaced c).Else-self-gt-MOST_WRITES, ← c.is_misplaced.ensures, c.if-is_misplaced.true)

pub returns : goal.returns
returns c =
    simp (in_range (goal.at.returns c).Else-self-gt-MOST_WRITES, ← c.is_misplaced.ensures, c.if-is_misplaced.false, ← c.is_late.ensures)
