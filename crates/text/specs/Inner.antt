-- What the code's inner functions put: a number with the byte that ends it, a line with or without a number in front, and where a text put ends.
use Rattle.std.specs.Prelude.{ℕ, ◌+◌, ◌≤◌, ◌≡◌, List, [], ◌∷◌, ◌++◌, length, Option, Some, None}
use Rattle.std.proofs.lemmas.List.Edits.{sets}
use Rattle.text.specs.Text.{most_digits, decimal, line, last_line}

-- a number and the byte that ends it
abbrev pub number_of : ℕ → ℕ → List ℕ
number_of n end = decimal n ++ end ∷ []

-- what stands in front of a line: its number and a space, or nothing
abbrev pub head_of : Option ℕ → List ℕ
head_of (Some n) = number_of n 32
head_of None = []

-- how many bytes that is, of which there are few
pub record HeadWidth (head : Option ℕ) (r : ℕ) : Type 0 where
  pub is_length : r ≡ length (head_of head)
  pub few : r ≤ most_digits + 1

-- a line with a number in front, or with none
abbrev pub headed : Option ℕ → List ℕ → ℕ → List ℕ
headed (Some n) w x = line n w x
headed None w x = last_line w x

-- xs put at `at`, and where it ends
pub record Put (out : List ℕ) (at : ℕ) (xs : List ℕ) (r : ℕ) (out' : List ℕ) : Type 0 where
  pub end : r ≡ at + length xs
  pub text : out' ≡ sets out at xs
  pub long : length out' ≡ length out
