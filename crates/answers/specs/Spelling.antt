-- The letters of an answer's word.
use Rattle.std.specs.Prelude.{ℕ, ◌≤◌, ◌≡◌, refl, List, length}
use Rattle.std.proofs.Common.{arith}
use Rattle.text.specs.Text.{bytes}
use Rattle.rules.specs.Answers.{spelling}
use Rattle.rules.specs.declared.Answer.{Answer}
use Rattle.rules.specs.declared.Answer.TheVariants.{Ready, Seat, Value, Noted, Locked, Timed, Checked, Sealed, Stored, Done, Dropped, Refused, Aborted}

abbrev pub letters_of : Answer → List ℕ
letters_of a = bytes (spelling a)

-- what a caller of `spell` rests on
pub record Spells (r : List ℕ) (a : Answer) : Type 0 where
  pub short : length r ≤ 7
  pub letters : r ≡ letters_of a

pub spells : (a : Answer) → Spells (letters_of a) a
spells (Ready n) = record { short = omega arith; letters = refl }
spells (Seat n) = record { short = omega arith; letters = refl }
spells (Value n) = record { short = omega arith; letters = refl }
spells (Noted n) = record { short = omega arith; letters = refl }
spells (Locked n) = record { short = omega arith; letters = refl }
spells (Timed n) = record { short = omega arith; letters = refl }
spells (Checked n) = record { short = omega arith; letters = refl }
spells (Sealed n) = record { short = omega arith; letters = refl }
spells (Stored n) = record { short = omega arith; letters = refl }
spells (Done n) = record { short = omega arith; letters = refl }
spells (Dropped n) = record { short = omega arith; letters = refl }
spells (Refused n) = record { short = omega arith; letters = refl }
spells (Aborted n) = record { short = omega arith; letters = refl }

pub spells_as : {r : List ℕ} (a : Answer) → r ≡ letters_of a → Spells r a
spells_as a e = rw e (spells a)
