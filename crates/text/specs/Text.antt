-- A number in decimal, a tape's lines, and a run of bytes put at a place of a buffer.
use Rattle.std.specs.Prelude.{ℕ, zero, suc, ◌+◌, ◌-◌, ◌/◌, ◌%◌, ◌^◌, ◌≡◌, cond, List, [], ◌∷◌, ◌++◌, ltb, leb, length}
use Prim.Native.String as S
use Prim.Native.String.{String}
use Prim.Native.Char.{code}
use Rattle.std.proofs.lemmas.List.Edits.{sets}

-- the greatest number of 64 bits
abbrev pub greatest : ℕ
greatest = 2 ^ 64 - 1

-- how many letters of a word are written, at most
abbrev pub most_letters : ℕ
most_letters = 10

-- how many decimal digits n has, where that is at most f + 1
unfoldable pub width_in : ℕ → ℕ → ℕ
width_in zero n = 1
width_in (suc f) n = cond (ltb n 10) 1 (1 + width_in f (n / 10))

-- how many a 64-bit number has, at most
abbrev pub most_digits : ℕ
most_digits = 20

unfoldable pub width_of : ℕ → ℕ
width_of n = width_in (most_digits - 1) n

-- the last k decimal digits of n, in ASCII
unfoldable pub digits : ℕ → ℕ → List ℕ
digits zero n = []
digits (suc k) n = digits k (n / 10) ++ (48 + n % 10) ∷ []

-- n in decimal, with no leading zero
unfoldable pub decimal : ℕ → List ℕ
decimal n = digits (width_of n) n

-- a text's characters as bytes (ASCII)
abbrev pub bytes : String → List ℕ
bytes S.[] = []
bytes (S.◌∷◌ c s) = code c ∷ bytes s

-- a word, a space, a number and a line's end; and the same behind a number and a space
unfoldable pub last_line : List ℕ → ℕ → List ℕ
last_line w x = w ++ 32 ∷ (decimal x ++ 10 ∷ [])

unfoldable pub line : ℕ → List ℕ → ℕ → List ℕ
line n w x = decimal n ++ 32 ∷ last_line w x

-- xs put into l at `at` where it fits whole, else l as it was
unfoldable pub put_in : List ℕ → ℕ → List ℕ → List ℕ
put_in l at xs = cond (leb (at + length xs) (length l)) (sets l at xs) l

-- what appending a text to a buffer answers and leaves
pub record Appended (out : List ℕ) (at : ℕ) (xs : List ℕ) (r : ℕ) (out' : List ℕ) : Type 0 where
  pub size : r ≡ length xs
  pub text : out' ≡ put_in out at xs
