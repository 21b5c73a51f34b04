-- `commit::Step::let_go` meets its contract. Assumes nothing.
use Rattle.std.proofs.Common.{refl, ap}
use Rattle.rules.specs.Advance.{let_go}
use Rattle.seats.specs.Outcomes.{same}
use Rattle.commit.proofs.Entries.{held_is}
use Rattle.commit.proofs.Step.let_go.Goals as goal

pub returns : goal.returns
unfolding let_go
returns c =
    let went = c.release.ensures in
    record {
      same_tables = rw went (refl, refl);
      outcome = λ t.
          simp (held_is c.requires.in_use.head, ← c.held_locks.ensures)
          (same refl refl (ap (λ s. s.words.now) went) (rw went at c.free_row.ensures));
    }
