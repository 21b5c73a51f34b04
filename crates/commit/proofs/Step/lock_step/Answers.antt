-- `commit::Step::lock_step` meets its contract. Assumes nothing.
use Rattle.std.proofs.Common.{refl}
use Rattle.rules.specs.Advance.{lock_step}
use Rattle.seats.specs.Outcomes.{same}
use Rattle.commit.proofs.Steps.{takes_as}
use Rattle.commit.proofs.Step.lock_step.Goals as goal

-- the word is locked
pub returns-then-is_locked : goal.returns-then-is_locked
unfolding lock_step
returns-then-is_locked c =
    let entry = c.write_entry-item.ensures in
    takes_as c.abort.ensures (λ t.
    simp (← c.requires.in_use.head.position_is, ← entry.item_is, ← c.word-word.ensures, ← c.is_locked.ensures, c.if-is_locked.true) refl)

-- it is not, and is taken
pub returns : goal.returns
unfolding lock_step
returns c =
    let entry = c.write_entry-item.ensures in
    rw c.move_to.ensures
    record {
      same_tables = (refl, refl);
      outcome = λ t.
          simp (
            ← c.requires.in_use.head.position_is,
            ← entry.item_is,
            ← c.word-word.ensures,
            ← c.is_locked.ensures,
            c.if-is_locked.false,
            ← c.lock.ensures,
          )
          (same refl refl c.store.ensures refl);
    }
