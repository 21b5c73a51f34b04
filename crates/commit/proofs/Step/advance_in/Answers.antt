-- `commit::Step::advance_in` meets its contract. Assumes nothing.
use Rattle.std.proofs.Common.{ℕ, ◌<◌, ◌≡◌, refl, sym, Bool, true, false, cond, eqb, eq-eqb, arith}
use Rattle.std.proofs.lemmas.Bool.{eqb-false}
use Rattle.rules.specs.Layout.{working, locking, checking, row, phase}
use Rattle.rules.specs.Tables.{Tables}
use Rattle.rules.specs.Advance.{advance_in, lock_phase}
use Rattle.commit.proofs.Steps.{takes_all}
use Rattle.commit.proofs.Step.advance_in.Goals as goal

-- phases 1 and 2 come to the same
locking_is : (t : Tables) (s : ℕ) {ph : ℕ} → ph ≡ phase (row t.seats s) → 0 < ph → ph < checking → advance_in t s ≡ lock_phase t s
unfolding advance_in
locking_is t s {ph} e a b = simp (← e) (either ph _ _ (eqb ph working) a b refl)
  where
    either : {A : Type 0} (ph : ℕ) (x y : A) (w : Bool) → 0 < ph → ph < checking → eqb ph working ≡ w → cond (eqb ph working) x (cond (eqb ph locking) x y) ≡ x
    either ph x y true a b q = rw q refl
    either ph x y false a b q = let n = eqb-false ph working q in rw (q, eq-eqb ph locking (omega arith)) refl

pub returns-in-1 : goal.returns-in-1
returns-in-1 c = takes_all _ c.lock_phase.ensures (sym (locking_is _ _ c.requires.head.phase_is (omega arith) (omega arith)))

pub returns-in-3 : goal.returns-in-3
unfolding advance_in
returns-in-3 c = takes_all _ c.check_phase.ensures (simp (← c.requires.head.phase_is, c.in-3.is) refl)

pub returns-in-4 : goal.returns-in-4
unfolding advance_in
returns-in-4 c =
    let stored = c.store_phase.ensures in
    record { same_tables = stored.same_tables; outcome = simp (← c.requires.head.phase_is, c.in-4.is) stored.outcome }
