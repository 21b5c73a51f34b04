-- Searches, counts and lists of tests, in which the rules are said.
use Rattle.std.specs.Prelude.{ℕ, zero, suc, ◌+◌, List, [], ◌∷◌, Bool, false, cond, ◌||◌, ltb}

-- the first number from i on that passes, among the next n; past them all where none does
unfoldable pub scan : (ℕ → Bool) → ℕ → ℕ → ℕ
scan p i zero = i
scan p i (suc n) = cond (p i) i (scan p (suc i) n)

-- the first of the numbers below n that passes; n where none does
abbrev pub first : (ℕ → Bool) → ℕ → ℕ
first p n = scan p 0 n

-- one of the numbers below n passes
abbrev pub any : (ℕ → Bool) → ℕ → Bool
any p n = ltb (first p n) n

-- how many of the numbers below n pass
unfoldable pub count : (ℕ → Bool) → ℕ → ℕ
count p zero = 0
count p (suc n) = count p n + cond (p n) 1 0

-- the sum of f over the numbers below n
unfoldable pub sum_to : (ℕ → ℕ) → ℕ → ℕ
sum_to f zero = 0
sum_to f (suc n) = sum_to f n + f n

-- one of a list of tests holds
unfoldable pub one_of : List Bool → Bool
one_of [] = false
one_of (b ∷ []) = b
one_of (b ∷ c ∷ bs) = b || one_of (c ∷ bs)

-- the number of the first test that holds, counted from k; 0 where none does
unfoldable pub first_of : ℕ → List Bool → ℕ
first_of k [] = 0
first_of k (b ∷ bs) = cond b k (first_of (suc k) bs)
