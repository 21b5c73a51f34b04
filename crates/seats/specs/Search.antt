-- A search among the numbers below n, and what is known where it has found one.
use Rattle.std.specs.Prelude.{ℕ, ◌<◌, ◌≤◌, ◌≡◌, refl, Bool, true, false, cond, Option, Some, None, is_some, unwrap_or}
use Rattle.std.proofs.Common.{sym, ap, ◌∙◌, true≢false, arith, ltb-true, ltb-false}
use Rattle.rules.specs.Tests.{first, any}
use Rattle.rows.specs.Search.{first_le}

-- the first that passes, where one does
abbrev pub found_by : Bool → ℕ → Option ℕ
found_by any_passes i = cond any_passes (Some i) None

abbrev pub found : (ℕ → Bool) → ℕ → Option ℕ
found p n = found_by (any p n) (first p n)

pub is_some_found : (any_passes : Bool) (i : ℕ) → is_some (found_by any_passes i) ≡ any_passes
is_some_found true i = refl
is_some_found false i = refl

abbrev number_in : Option ℕ → ℕ
number_in None = 0
number_in (Some i) = i

pub found_some : (p : ℕ → Bool) (n : ℕ) {i : ℕ} → found p n ≡ Some i → (first p n ≡ i) × (first p n < n)
found_some p n {i} e = go (any p n) refl e
  where
    go : (b : Bool) → any p n ≡ b → found_by b (first p n) ≡ Some i → (first p n ≡ i) × (first p n < n)
    go true q z = (ap number_in z, ltb-true _ _ q)
    go false q z = absurd (true≢false (sym (ap is_some z)))

pub found_none : (p : ℕ → Bool) (n : ℕ) → found p n ≡ None → n ≤ first p n
found_none p n e = go (any p n) refl e
  where
    go : (b : Bool) → any p n ≡ b → found_by b (first p n) ≡ None → n ≤ first p n
    go true q z = absurd (true≢false (ap is_some z))
    go false q z = ltb-false _ _ q

-- what is found, or n: the first that passes, or n
pub found_or : (p : ℕ → Bool) (n : ℕ) → unwrap_or (found p n) n ≡ first p n
found_or p n = go (any p n) refl
  where
    go : (b : Bool) → any p n ≡ b → unwrap_or (found_by b (first p n)) n ≡ first p n
    go true q = refl
    go false q = omega (arith, ltb-false (first p n) n q, first_le p n)

-- a loop that goes through the numbers from 0 on: what holds of the first i holds of all n at the end
pub at_end : {A : Type 0} (F : ℕ → A) {x : A} (i n : ℕ) → x ≡ F i → i ≤ n → n ≤ i → x ≡ F n
at_end F i n e a b = e ∙ ap F (let q : i ≡ n = omega arith in q)
