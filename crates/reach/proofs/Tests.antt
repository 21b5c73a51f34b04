-- Tests: by their two values, lists of them, and the search for the first number that passes.
use Prim.Native.Nat.{ℕ, zero, suc, ◌≤◌, ◌<◌}
use mathlib.Core.Path.{◌≡◌, refl, sym, ap, ◌∙◌}
use mathlib.Core.Logic.{◌≢◌, ⊎_elim}
use mathlib.Core.Bool.{Bool, true, false, ◌&&◌, ◌||◌, true≢false}
use mathlib.Core.List.{List, [], ◌∷◌}
use native.Mathlib.Omega.{arith}
use native.Mathlib.Nat.{eq-or-lt_of_le}
use Rattle.rules.specs.Tests.{scan, first, any, one_of, first_of}
use Rattle.rows.specs.Search.{none_at}
use Rattle.rows.specs.Fine.{Each}

-- by a test, with what it came to
pub by : {A : Type 0} (b : Bool) → (b ≡ true → A) → (b ≡ false → A) → A
by true f g = f refl
by false f g = g refl

-- the second test counts only where the first holds
pub only_where : (a b : Bool) → (a ≡ true → b ≡ false) → a && b ≡ false
only_where true b h = h refl
only_where false b h = refl

-- two tests that hold together are one
pub same_test : (a b : Bool) → (a ≡ true → b ≡ true) → (b ≡ true → a ≡ true) → a ≡ b
same_test true b f g = sym (f refl)
same_test false true f g = g refl
same_test false false f g = refl

pub or_true : (b : Bool) → (b || true) ≡ true
or_true true = refl
or_true false = refl

pub or_false : (b : Bool) → (b || false) ≡ b
or_false true = refl
or_false false = refl

-- LISTS OF TESTS
pub all_none : (bs : List Bool) → Each bs → one_of bs ≡ false
unfolding one_of
all_none [] e = refl
all_none (b ∷ []) e = e.0
all_none (b ∷ c ∷ bs) e = rw e.0 (all_none (c ∷ bs) e.1)

first_of_not : (k m : ℕ) (bs : List Bool) → 0 < m → m < k → first_of k bs ≢ m
unfolding first_of
first_of_not k m [] p h = omega arith
first_of_not k m (true ∷ bs) p h = omega arith
first_of_not k m (false ∷ bs) p h = first_of_not (suc k) m bs p (omega arith)

-- where the third test does not hold, 3 is not the number
pub not_first : (n : ℕ) (bs : List Bool) → first_of (suc n) (false ∷ bs) ≢ suc n
unfolding first_of
not_first n bs = first_of_not (suc (suc n)) (suc n) bs (omega arith) (omega arith)

-- THE SEARCH
pub some-any : (p : ℕ → Bool) (n i : ℕ) → i < n → p i ≡ true → any p n ≡ true
some-any p n i l e = by (any p n) (λ q. q) (λ q. absurd (true≢false (sym e ∙ none_at p n i q l)))

-- none passes before the first
scan_before : (p : ℕ → Bool) (n j i : ℕ) → j ≤ i → i < scan p j n → p i ≡ false
unfolding scan
scan_before p zero j i a l = absurd (omega arith)
scan_before p (suc n) j i a l =
    by (p j)
    (λ e. absurd (let q : i < j = rw e at l in omega arith))
    (λ e. let q : i < scan p (suc j) n = rw e at l in
    ⊎_elim (λ (z : j ≡ i). ap p (sym z) ∙ e) (λ (z : j < i). scan_before p n (suc j) i z q) (eq-or-lt_of_le a))

pub before_first : (p : ℕ → Bool) (n i : ℕ) → i < first p n → p i ≡ false
before_first p n i l = scan_before p n 0 i (omega arith) l
