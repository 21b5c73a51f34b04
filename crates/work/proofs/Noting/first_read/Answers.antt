-- `work::Noting::first_read` meets its contract. Assumes nothing.
use Rattle.std.proofs.Common.{refl, le-leb}
use Rattle.std.proofs.lemmas.Bool.{lt-leb}
use Rattle.rules.specs.Work.{first_read}
use Rattle.work.proofs.Noting.first_read.Goals as goal

pub returns-then-self-ge-MOST_READS : goal.returns-then-self-ge-MOST_READS
unfolding first_read
returns-then-self-ge-MOST_READS c =
    record { same_seats = refl; outcome = simp (← c.requires.reads_is, le-leb _ _ c.if-self-ge-MOST_READS.true) }

pub returns-then-is_locked : goal.returns-then-is_locked
unfolding first_read
returns-then-is_locked c =
    record {
      same_seats = refl;
      outcome =
          simp (← c.requires.reads_is, lt-leb _ _ c.if-self-ge-MOST_READS.false, ← c.at-word.ensures, ← c.is_locked.ensures, c.if-is_locked.true);
    }

pub returns : goal.returns
unfolding first_read
returns c =
    rw c.note_read.ensures
    record {
      same_seats = refl;
      outcome =
          simp (
            ← c.requires.reads_is,
            lt-leb _ _ c.if-self-ge-MOST_READS.false,
            ← c.at-word.ensures,
            ← c.is_locked.ensures,
            c.if-is_locked.false,
            ← c.at-value.ensures,
          )
          refl;
    }
