-- What callers may rest on: text put into a buffer piece by piece, and how long a line is.
use Rattle.std.specs.Prelude.{ℕ, zero, suc, ◌+◌, ◌/◌, ◌%◌, ◌≤◌, ◌<◌, ◌≡◌, refl, List, [], ◌∷◌, ◌++◌, length, set}
use Rattle.std.proofs.Common.{arith, add-one, add-zero, ap, sym, ◌∙◌, length-append, lt-ltb, le-ltb, le-leb}
use Rattle.std.proofs.lemmas.List.Edits.{sets}
use Rattle.std.proofs.lemmas.Bool.{lt-leb}
use Rattle.text.specs.Text.{width_in, width_of, digits, decimal, line, last_line, put_in}

-- a run in two pieces
pub sets_append : (l : List ℕ) (i : ℕ) (xs ys : List ℕ) → sets l i (xs ++ ys) ≡ sets (sets l i xs) (i + length xs) ys
sets_append l i [] ys = rw add-zero
sets_append l i (x ∷ xs) ys = rw (sets_append (set l i x) (suc i) xs ys) (ap (λ (k : ℕ). sets (sets (set l i x) (suc i) xs) k ys) (omega arith))

pub sets_at : (l : List ℕ) (i j : ℕ) (xs ys : List ℕ) → j ≡ i + length xs → sets (sets l i xs) j ys ≡ sets l i (xs ++ ys)
sets_at l i j xs ys e = rw e (sym (sets_append l i xs ys))

pub put-fits : (l : List ℕ) (at : ℕ) (xs : List ℕ) → at + length xs ≤ length l → sets l at xs ≡ put_in l at xs
unfolding put_in
put-fits l at xs h = rw (le-leb (at + length xs) (length l) h)

pub put-not : (l : List ℕ) (at : ℕ) (xs : List ℕ) → length l < at + length xs → l ≡ put_in l at xs
unfolding put_in
put-not l at xs h = rw (lt-leb (at + length xs) (length l) h)

-- how many digits a number has: one, or one more than its tenth
pub width_done : (f n : ℕ) → n < 10 → width_in f n ≡ 1
unfolding width_in
width_done zero n h = refl
width_done (suc f) n h = rw (lt-ltb n 10 h)

pub width_next : (f n : ℕ) → 10 ≤ n → width_in (suc f) n ≡ suc (width_in f (n / 10))
unfolding width_in
width_next f n h = rw (le-ltb n 10 h) (omega arith)

pub length_digits : (k n : ℕ) → length (digits k n) ≡ k
unfolding digits
length_digits zero n = refl
length_digits (suc k) n = length-append (digits k (n / 10)) ((48 + n % 10) ∷ []) ∙ ap (λ (m : ℕ). m + 1) (length_digits k (n / 10)) ∙ add-one k

pub length-decimal : (n : ℕ) → length (decimal n) ≡ width_of n
unfolding decimal
length-decimal n = length_digits (width_of n) n

pub length_last : (w : List ℕ) (x : ℕ) → length (last_line w x) ≡ length w + width_of x + 2
unfolding last_line
length_last w x = omega (arith, length-append w (32 ∷ (decimal x ++ 10 ∷ [])), length-append (decimal x) (10 ∷ []), length-decimal x)

pub length-line : (n : ℕ) (w : List ℕ) (x : ℕ) → length (line n w x) ≡ width_of n + length w + width_of x + 3
unfolding line
length-line n w x = omega (arith, length-append (decimal n) (32 ∷ last_line w x), length_last w x, length-decimal n)
