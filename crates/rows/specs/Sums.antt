-- Sums over the numbers below n.
use Rattle.std.specs.Prelude.{ℕ, zero, suc, ◌+◌, ◌≤◌, ◌<◌, ◌≡◌, refl}
use Rattle.std.proofs.Common.{ap, ⊎_elim, arith, eq-or-lt_of_le, le_of_suc-le-suc}
use Rattle.rules.specs.Tests.{sum_to}

pub sum_add : (f g : ℕ → ℕ) (n : ℕ) → sum_to (λ o. f o + g o) n ≡ sum_to f n + sum_to g n
unfolding sum_to
sum_add f g zero = refl
sum_add f g (suc n) = let e = sum_add f g n in omega arith

pub sum_has : (f : ℕ → ℕ) (k n : ℕ) → k < n → f k ≤ sum_to f n
unfolding sum_to
sum_has f k zero l = absurd (omega arith)
sum_has f k (suc n) l =
    ⊎_elim
    (λ e. let q : f k ≡ f n = ap f e in omega arith)
    (λ h. let i = sum_has f k n h in omega arith)
    (eq-or-lt_of_le (le_of_suc-le-suc l))

pub sum_mono : (f g : ℕ → ℕ) (n : ℕ) → ((o : ℕ) → o < n → f o ≤ g o) → sum_to f n ≤ sum_to g n
unfolding sum_to
sum_mono f g zero h = omega arith
sum_mono f g (suc n) h = let i = sum_mono f g n (λ o l. h o (omega arith)) in let j = h n (omega arith) in omega arith

-- one term is less
pub sum_less : (f g : ℕ → ℕ) (k n : ℕ) → ((o : ℕ) → o < n → f o ≤ g o) → k < n → f k < g k → sum_to f n < sum_to g n
unfolding sum_to
sum_less f g k zero h l s = absurd (omega arith)
sum_less f g k (suc n) h l s =
    ⊎_elim
    (λ e. let a : f k ≡ f n = ap f e in let b : g k ≡ g n = ap g e in let i = sum_mono f g n (λ o m. h o (omega arith)) in omega arith)
    (λ q. let i = sum_less f g k n (λ o m. h o (omega arith)) q s in let j = h n (omega arith) in omega arith)
    (eq-or-lt_of_le (le_of_suc-le-suc l))
