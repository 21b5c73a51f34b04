-- What it is for a text to say a number in digits, with no leading zero. The laws are in proofs/ReadBack.
use Rattle.std.specs.Prelude.{ℕ, ◌+◌, ◌-◌, ◌*◌, ◌≤◌, ◌≡◌, List, [], ◌∷◌, length, get_or}
use Rattle.text.specs.Text.{digits}

-- the number that digits say, the most significant first, behind a number so far
unfoldable pub read_on : ℕ → List ℕ → ℕ
read_on so [] = so
read_on so (b ∷ bs) = read_on (so * 10 + (b - 48)) bs

abbrev pub read_back : List ℕ → ℕ
read_back t = read_on 0 t

-- bytes 48 to 57
pub data IsDigits : List ℕ → Type 0 where
  none : IsDigits []
  digit : {b : ℕ} {bs : List ℕ} → 48 ≤ b → b ≤ 57 → IsDigits bs → IsDigits (b ∷ bs)

-- the first byte is 48 only where it is the only one
abbrev pub NoLeadingZero : List ℕ → Type 0
NoLeadingZero t = get_or t 0 0 ≡ 48 → length t ≡ 1

-- the last w digits of n, where it has that many
pub record Shows (w n : ℕ) : Type 0 where
  pub filled : 1 ≤ w
  pub says : read_back (digits w n) ≡ n
  pub starts : 1 ≤ n → 49 ≤ get_or (digits w n) 0 0
