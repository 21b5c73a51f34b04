-- Laws of runs of stores and of decimal digits. Assumes nothing.
use Rattle.std.specs.Prelude.{ℕ, zero, suc, ◌+◌, ◌-◌, ◌*◌, ◌/◌, ◌%◌, ◌^◌, ◌≤◌, ◌<◌, max, ◌≡◌, refl, Option, Some, None}
use Rattle.std.specs.Prelude.{List, [], ◌∷◌, ◌++◌, length, set}
use Rattle.std.proofs.Common.{arith, ap, sym, ◌∙◌, append_assoc, length-append}
use Rattle.std.proofs.Math.Nat.{pow-succ'}
use Rattle.std.proofs.lemmas.List.Edits.{sets}
use Rattle.std.proofs.lemmas.List.{set_comm}
use Rattle.std.proofs.Math.Seq.{length-sets}
use Rattle.text.specs.Text.{width_in, width_of, digits, decimal, line, last_line}
use Rattle.text.specs.Puts.{sets_append, sets_at, length_digits, length-decimal, width_done, width_next}
use Rattle.text.specs.Inner.{number_of, head_of, headed, Put}

-- a store past a run may go first
pub sets-set : (l : List ℕ) (i : ℕ) (xs : List ℕ) (j y : ℕ) → i + length xs ≤ j → set (sets l i xs) j y ≡ sets (set l j y) i xs
sets-set l i [] j y h = refl
sets-set l i (x ∷ xs) j y h =
    let ne : i ≡ j → ⊥ = λ e. omega arith in
    sets-set (set l i x) (suc i) xs j y (omega arith) ∙ ap (λ (m : List ℕ). sets m (suc i) xs) (set_comm l i j x y ne)

-- the last digit may be stored first
pub digits_last : (l : List ℕ) (at i n : ℕ) → sets (set l (at + i) (48 + n % 10)) at (digits i (n / 10)) ≡ sets l at (digits (suc i) n)
unfolding digits
digits_last l at i n =
    sym (sets-set l at (digits i (n / 10)) (at + i) (48 + n % 10) (omega (arith, length_digits i (n / 10))))
    ∙ ap (λ (k : ℕ). set (sets l at (digits i (n / 10))) (at + k) (48 + n % 10)) (sym (length_digits i (n / 10)))
    ∙ sym (sets_append l at (digits i (n / 10)) ((48 + n % 10) ∷ []))

-- a power of ten is positive
pow-pos : (k : ℕ) → 1 ≤ 10 ^ k
pow-pos zero = omega arith
pow-pos (suc k) = omega (arith, pow-succ' 10 k, pow-pos k)

-- the width by the logarithm
pub width_log : (f k n : ℕ) → k ≤ f → 10 ^ k ≤ n → n < 10 * 10 ^ k → width_in f n ≡ k + 1
width_log f zero n h a b = width_done f n (omega arith)
width_log zero (suc k) n h a b = absurd (omega arith)
width_log (suc f) (suc k) n h a b =
    let p : 10 ^ suc k ≡ 10 * 10 ^ k = pow-succ' 10 k in
    width_next f n (omega (arith, p, pow-pos k)) ∙ ap suc (width_log f k (n / 10) (omega arith) (omega (arith, p)) (omega (arith, p))) ∙ omega arith

-- 0 has one digit, as 1 has
pub width_least : (n k m : ℕ) → m ≡ max n 1 → k < 20 → 10 ^ k ≤ m → m < 10 * 10 ^ k → k + 1 ≡ width_of n
unfolding width_of
width_least zero k m e h a b =
    sym (width_log 19 k 1 (omega arith) (omega arith) (omega arith)) ∙ width_done 19 1 (omega arith) ∙ sym (width_done 19 0 (omega arith))
width_least (suc n) k m e h a b = sym (width_log 19 k (suc n) (omega arith) (omega arith) (omega arith))

pub digits_back : (l : List ℕ) (at i n : ℕ) → 0 < i → sets (set l (at + (i - 1)) (48 + n % 10)) at (digits (i - 1) (n / 10)) ≡ sets l at (digits i n)
digits_back l at zero n h = absurd (omega arith)
digits_back l at (suc i) n h = let e : suc i - 1 ≡ i = omega arith in rw e (digits_last l at i n)

pub digits-none : (l : List ℕ) (at i n : ℕ) → i ≤ 0 → l ≡ sets l at (digits i n)
unfolding digits
digits-none l at zero n h = refl
digits-none l at (suc i) n h = absurd (omega arith)

pub length_number : (n end : ℕ) → length (number_of n end) ≡ width_of n + 1
length_number n end = omega (arith, length-append (decimal n) (end ∷ []), length-decimal n)

-- a text put keeps the buffer's length
pub put_as : {l m xs : List ℕ} {i j : ℕ} → j ≡ i + length xs → m ≡ sets l i xs → Put l i xs j m
put_as {l} {m} {xs} {i} e t = record { end = e; text = t; long = ap length t ∙ length-sets l i xs }

-- one text put behind another
pub put_both : {l m n xs ys : List ℕ} {i j k : ℕ} → Put l i xs j m → Put m j ys k n → Put l i (xs ++ ys) k n
put_both {l} {m} {n} {xs} {ys} {i} {j} {k} p q =
    put_as (omega (arith, p.end, q.end, length-append xs ys)) (q.text ∙ ap (λ (b : List ℕ). sets b j ys) p.text ∙ sets_at l i j xs ys p.end)

-- a line in its pieces
pub headed_is : (head : Option ℕ) (w : List ℕ) (x : ℕ) → headed head w x ≡ head_of head ++ (w ++ 32 ∷ number_of x 10)
unfolding line last_line
headed_is (Some n) w x = sym (append_assoc (decimal n) (32 ∷ []) (last_line w x))
headed_is None w x = refl

pub length_headed : (head : Option ℕ) (w : List ℕ) (x : ℕ) → length (headed head w x) ≡ length (head_of head) + length w + width_of x + 2
length_headed head w x =
    let rest : List ℕ = 32 ∷ number_of x 10 in
    omega (arith, ap length (headed_is head w x), length-append (head_of head) (w ++ rest), length-append w rest, length_number x 10)

-- its pieces put one behind another
pub line_put : (head : Option ℕ) (w : List ℕ) (x : ℕ) {l a b c d e : List ℕ} {at p q r s t : ℕ}
    → Put l at (head_of head) p a → Put a p w q b → Put b q (32 ∷ []) r c → Put c r (decimal x) s d → Put d s (10 ∷ []) t e
    → e ≡ sets l at (headed head w x)
line_put head w x {l} {at = at} f g h i j =
    (put_both f (put_both g (put_both h (put_both i j)))).text ∙ ap (λ (t : List ℕ). sets l at t) (sym (headed_is head w x))
