-- A loop that looks for the first of n numbers that passes, from 0 on. `Passed p n i`: the search among n comes to what the search from i on comes to.
use Rattle.rules.specs.Layout.{row_width}
use Rattle.std.specs.Prelude.{ℕ, zero, suc, ◌+◌, ◌-◌, ◌*◌, ◌≤◌, ◌<◌, ◌≡◌, refl, Bool, true, false, cond, ◌≢◌}
use Rattle.std.proofs.Common.{sym, ap, ◌∙◌, true≢false, arith, mul-le-mul_left, add-one, lt-ltb, le-ltb}
use Rattle.std.proofs.Math.Decide.{dec_lt}
use Rattle.rules.specs.Tests.{scan, first, any}

abbrev pub Passed : (ℕ → Bool) → ℕ → ℕ → Type 0
Passed p n i = (i ≤ n) × (first p n ≡ scan p i (n - i))

left-suc : (n i : ℕ) → i < n → n - i ≡ suc (n - (i + 1))
left-suc n i h = omega arith

scan-suc : (p : ℕ → Bool) (i n : ℕ) → scan p i (suc n) ≡ cond (p i) i (scan p (suc i) n)
unfolding scan
scan-suc p i n = refl

scan-zero : (p : ℕ → Bool) (i : ℕ) → scan p i 0 ≡ i
unfolding scan
scan-zero p i = refl

-- the search from i on, where i is below n
scan_at : (p : ℕ → Bool) (n i : ℕ) → i < n → scan p i (n - i) ≡ cond (p i) i (scan p (i + 1) (n - (i + 1)))
scan_at p n i h = rw (left-suc n i h, scan-suc, ← add-one)

pub passed_none : (p : ℕ → Bool) (n : ℕ) → Passed p n 0
passed_none p n = (omega arith, ap (scan p 0) (let e : n ≡ n - 0 = omega arith in e))

pub passed_more : (p : ℕ → Bool) (n i : ℕ) → Passed p n i → i < n → p i ≡ false → Passed p n (i + 1)
passed_more p n i h l e = (omega arith, h.1 ∙ scan_at p n i l ∙ rw e)

-- i passes: it is the first
pub found_first : (p : ℕ → Bool) (n i : ℕ) → Passed p n i → i < n → p i ≡ true → first p n ≡ i
found_first p n i h l e = h.1 ∙ scan_at p n i l ∙ rw e

-- none passes
pub found_none : (p : ℕ → Bool) (n i : ℕ) → Passed p n i → n ≤ i → first p n ≡ n
found_none p n i h l = h.1 ∙ ap (scan p i) (let e : n - i ≡ 0 = omega arith in e) ∙ scan-zero p i ∙ (let e : i ≡ n = omega arith in e)

pub some_passes : (p : ℕ → Bool) (n i : ℕ) → Passed p n i → i < n → p i ≡ true → any p n ≡ true
some_passes p n i h l e = rw (found_first p n i h l e, lt-ltb)

pub none_passes : (p : ℕ → Bool) (n i : ℕ) → Passed p n i → n ≤ i → any p n ≡ false
none_passes p n i h l = rw (found_none p n i h l) (le-ltb n n (omega arith))

-- entry i of n entries of w numbers from b on begins in the row
pub within : (b w n i : ℕ) → b + w * n ≤ row_width → i < n → b + w * i ≤ row_width
within b w n i h l = omega (arith, mul-le-mul_left w (let e : i ≤ n = omega arith in e))

scan_le : (p : ℕ → Bool) (n i : ℕ) → scan p i n ≤ i + n
unfolding scan
scan_le p zero i = omega arith
scan_le p (suc n) i = cond_le (p i) i (scan p (suc i) n) (i + suc n) (omega arith) (let h : scan p (suc i) n ≤ suc i + n = scan_le p n (suc i) in omega arith)
  where
    cond_le : (b : Bool) (x y m : ℕ) → x ≤ m → y ≤ m → cond b x y ≤ m
    cond_le true x y m a c = a
    cond_le false x y m a c = c

pub first_le : (p : ℕ → Bool) (n : ℕ) → first p n ≤ n
first_le p n = let h : scan p 0 n ≤ 0 + n = scan_le p n 0 in omega arith

-- the search stops no later than at a number that passes
scan_stops : (p : ℕ → Bool) (n j i : ℕ) → j ≤ i → i < j + n → p i ≡ true → scan p j n ≤ i
unfolding scan
scan_stops p zero j i a l e = absurd (omega arith)
scan_stops p (suc n) j i a l e = step p n j i a l e (p j) refl (λ h. scan_stops p n (suc j) i h (omega arith) e)
  where
    differs : (p : ℕ → Bool) (j i : ℕ) → p i ≡ true → p j ≡ false → j ≡ i → ⊥
    differs p j i e q z = true≢false (sym e ∙ ap p (sym z) ∙ q)

    step : (p : ℕ → Bool) (n j i : ℕ) → j ≤ i → i < j + suc n → p i ≡ true → (b : Bool) → p j ≡ b → (suc j ≤ i → scan p (suc j) n ≤ i) →
        cond b j (scan p (suc j) n) ≤ i
    step p n j i a l e true q h = a
    step p n j i a l e false q h = h (let d : j ≢ i = differs p j i e q in omega arith)

-- where none of n passes, none of them does
pub none_at : (p : ℕ → Bool) (n i : ℕ) → any p n ≡ false → i < n → p i ≡ false
none_at p n i e l = go (p i) refl
  where
    go : (b : Bool) → p i ≡ b → p i ≡ false
    go false q = q
    go true q =
        let h : first p n ≤ i = scan_stops p n 0 i (omega arith) (omega arith) q in
        absurd (true≢false (sym (lt-ltb (first p n) n (omega arith)) ∙ e))

scan_all : (p : ℕ → Bool) (n j : ℕ) → ((i : ℕ) → j ≤ i → i < j + n → p i ≡ false) → scan p j n ≡ j + n
unfolding scan
scan_all p zero j h = omega arith
scan_all p (suc n) j h = rw (h j (omega arith) (omega arith)) (let e = scan_all p n (suc j) (λ i a b. h i (omega arith) (omega arith)) in omega arith)

pub none_any : (p : ℕ → Bool) (n : ℕ) → ((i : ℕ) → i < n → p i ≡ false) → any p n ≡ false
none_any p n h = le-ltb (first p n) n (let e : scan p 0 n ≡ 0 + n = scan_all p n 0 (λ i a b. h i (omega arith)) in omega arith)

-- where the search stops below the end, what it stops at passes
scan_hit : (p : ℕ → Bool) (n i : ℕ) → scan p i n < i + n → p (scan p i n) ≡ true
unfolding scan
scan_hit p zero i h = absurd (omega arith)
scan_hit p (suc n) i h = go (p i) refl (λ l. scan_hit p n (suc i) l) h
  where
    go : (b : Bool) → p i ≡ b → (scan p (suc i) n < suc i + n → p (scan p (suc i) n) ≡ true) → cond b i (scan p (suc i) n) < i + suc n →
        p (cond b i (scan p (suc i) n)) ≡ true
    go true q k l = q
    go false q k l = k (omega arith)

pub first_hit : (p : ℕ → Bool) (n : ℕ) → first p n < n → p (first p n) ≡ true
first_hit p n h = scan_hit p n 0 (omega arith)

-- a number that passes is one
pub some_any : (p : ℕ → Bool) (n k : ℕ) → k < n → p k ≡ true → any p n ≡ true
some_any p n k l e = go (any p n) refl
  where
    go : (b : Bool) → any p n ≡ b → any p n ≡ true
    go true q = q
    go false q = absurd (true≢false (sym e ∙ none_at p n k q l))

-- a number that passes, and none below it does: it is the first
pub first_is : (p : ℕ → Bool) (n i : ℕ) → i < n → p i ≡ true → ((k : ℕ) → k < i → p k ≡ false) → first p n ≡ i
first_is p n i l e none =
    let low : first p n ≤ i = scan_stops p n 0 i (omega arith) (omega arith) e in
    let not_below : i ≤ first p n = not_lt (λ z. true≢false (sym (first_hit p n (omega arith)) ∙ none (first p n) z)) in
    omega arith
  where
    not_lt : (first p n < i → ⊥) → i ≤ first p n
    not_lt h = by (dec_lt (first p n) i)
      where
        by : Dec (first p n < i) → i ≤ first p n
        by (yes z) = absurd (h z)
        by (no z) = omega arith
