-- Sums and counts: what one changed place does to them, and what a count of none, one or two says.
use Prim.Native.Nat.{ℕ, zero, suc, ◌+◌, ◌≤◌, ◌<◌}
use mathlib.Core.Path.{◌≡◌, refl, sym, ap, ◌∙◌}
use mathlib.Core.Logic.{◌≢◌, ⊎_elim}
use mathlib.Core.Bool.{Bool, true, false, cond}
use native.Mathlib.Omega.{arith}
use native.Mathlib.Nat.{eq-or-lt_of_le, le_of_suc-le-suc}
use Rattle.rules.specs.Tests.{sum_to, count}
use Rattle.reach.proofs.Tests.{by}

abbrev pub one : Bool → ℕ
one b = cond b 1 0

pub one_le : (b : Bool) → one b ≤ 1
one_le true = omega arith
one_le false = omega arith

-- sums of two rows of numbers that are the same, or differ at k alone
pub sum_same : (f g : ℕ → ℕ) (n : ℕ) → ((i : ℕ) → i < n → g i ≡ f i) → sum_to g n ≡ sum_to f n
unfolding sum_to
sum_same f g zero h = refl
sum_same f g (suc n) h = let i = sum_same f g n (λ i l. h i (omega arith)) in let j = h n (omega arith) in omega arith

pub sum_change : (f g : ℕ → ℕ) (k n : ℕ) → k < n → ((i : ℕ) → i < n → i ≢ k → g i ≡ f i) → sum_to g n + f k ≡ sum_to f n + g k
unfolding sum_to
sum_change f g k zero l h = absurd (omega arith)
sum_change f g k (suc n) l h =
    ⊎_elim
    (λ e. let a : f k ≡ f n = ap f e in let b : g k ≡ g n = ap g e in let i = sum_same f g n (λ i q. h i (omega arith) (omega arith)) in omega arith)
    (λ q. let i = sum_change f g k n q (λ i a d. h i (omega arith) d) in let j = h n (omega arith) (omega arith) in omega arith)
    (eq-or-lt_of_le (le_of_suc-le-suc l))

-- a count is a sum of ones
pub count_sum : (p : ℕ → Bool) (n : ℕ) → count p n ≡ sum_to (λ i. one (p i)) n
unfolding count sum_to
count_sum p zero = refl
count_sum p (suc n) = let i = count_sum p n in omega arith

pub count_change : (p q : ℕ → Bool) (k n : ℕ) → k < n → ((i : ℕ) → i < n → i ≢ k → q i ≡ p i) → count q n + one (p k) ≡ count p n + one (q k)
count_change p q k n l h =
    let e = sum_change (λ i. one (p i)) (λ i. one (q i)) k n l (λ i a d. ap one (h i a d)) in
    let a = count_sum p n in
    let b = count_sum q n in
    omega arith

pub count_same : (p q : ℕ → Bool) (n : ℕ) → ((i : ℕ) → q i ≡ p i) → count q n ≡ count p n
count_same p q n h = ap (λ (f : ℕ → Bool). count f n) (λ i k. h k i)

-- each one is counted
pub count-has : (p : ℕ → Bool) (k n : ℕ) → k < n → one (p k) ≤ count p n
unfolding count
count-has p k zero l = absurd (omega arith)
count-has p k (suc n) l =
    ⊎_elim
    (λ e. let q : one (p k) ≡ one (p n) = ap (λ (i : ℕ). one (p i)) e in omega arith)
    (λ h. let i = count-has p k n h in omega arith)
    (eq-or-lt_of_le (le_of_suc-le-suc l))

pub count_none : (p : ℕ → Bool) (n : ℕ) → ((i : ℕ) → i < n → p i ≡ false) → count p n ≡ 0
unfolding count
count_none p zero h = refl
count_none p (suc n) h = let i = count_none p n (λ i l. h i (omega arith)) in let j : one (p n) ≡ 0 = ap one (h n (omega arith)) in omega arith

-- a count that is not none has one; two are counted twice
pub count-some : (p : ℕ → Bool) (n : ℕ) → 1 ≤ count p n → (k : ℕ) × (k < n) × (p k ≡ true)
unfolding count
count-some p zero h = absurd (omega arith)
count-some p (suc n) h =
    by (p n)
    (λ e. (n, omega arith, e))
    (λ e. let q = count-some p n (let z : one (p n) ≡ 0 = ap one e in omega arith) in (q.0, (let l = q.1 in omega arith), q.2))

pub count-two : (p : ℕ → Bool) (a b n : ℕ) → a < b → b < n → p a ≡ true → p b ≡ true → 2 ≤ count p n
unfolding count
count-two p a b zero l h x y = absurd (omega arith)
count-two p a b (suc n) l h x y =
    ⊎_elim
    (λ e. let q : one (p n) ≡ 1 = ap one (ap p (sym e) ∙ y) in let r : one (p a) ≡ 1 = ap one x in let m = count-has p a n (omega arith) in omega arith)
    (λ g. let q = count-two p a b n l g x y in omega arith)
    (eq-or-lt_of_le (le_of_suc-le-suc h))
