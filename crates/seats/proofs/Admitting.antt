-- A call that comes too late for its row, as `admit` of `Row` refuses it.
use Rattle.std.specs.Prelude.{ℕ, ◌<◌, ◌≡◌, List, false, Err}
use Rattle.std.proofs.Common.{arith, lt-ltb, eq-eqb, ne_eqb}
use Rattle.rules.specs.Layout.{phase}
use Rattle.rules.specs.Tests.{one_of, first_of}
use Rattle.rules.specs.Refusals.{damaged, foreign, row_refusal}
use Rattle.seats.specs.Heads.{head_of, admission}

pub refused_late : (g : List ℕ) (records owner last : ℕ) → damaged g records ≡ false → 0 < (head_of g).phase → (head_of g).owner ≡ owner
    → last < (head_of g).phase → admission (row_refusal g records owner last) g ≡ Err 5
unfolding row_refusal foreign one_of first_of admission head_of
refused_late g records owner last fine used own late = simp (fine, ne_eqb (phase g) 0 (λ e. omega arith), eq-eqb _ _ own, lt-ltb _ _ late)
