-- The entries of a row as a list: the values of a function at n places from i on.
use Prim.Native.Nat.{ℕ, zero, suc, ◌+◌, ◌-◌, ◌≤◌, ◌<◌}
use mathlib.Core.Path.{◌≡◌, refl, sym, ap, ◌∙◌}
use mathlib.Core.Logic.{⊎_elim}
use mathlib.Core.Bool.{Bool, true, false, cond, ◌||◌}
use mathlib.Core.List.Memᴰ.{head as here}
use mathlib.Core.List.Memᴰ.{tail as there}
use mathlib.Core.List.{List, [], ◌∷◌, ◌++◌, map, Memᴰ as In}
use mathlib.Core.List.Memᴰ.{cases_cons as uncons}
use mathlib.Core.List.Memᴰ.{not-nil}
use native.Mathlib.Omega.{arith}
use native.Mathlib.Nat.{eq-or-lt_of_le}
use native.Mathlib.Numerals.{add-one}
use borrow.Author.Tests.{lt-ltb, le-ltb}
use lib.Dec.{ltb}
use lib.ListN.{length, get_or}
use Rattle.rules.specs.Tests.{scan, any}
use Rattle.observer.specs.Observer.{has}

unfoldable pub seg : {A : Type 0} → (ℕ → A) → ℕ → ℕ → List A
seg f i zero = []
seg f i (suc n) = f i ∷ seg f (suc i) n

module _ {A : Type 0} where
  pub length-seg : (f : ℕ → A) (n i : ℕ) → length (seg f i n) ≡ n
  unfolding seg
  length-seg f zero i = refl
  length-seg f (suc n) i = ap suc (length-seg f n (suc i))

  pub seg_ext : (f g : ℕ → A) (n i : ℕ) → ((j : ℕ) → i ≤ j → j < i + n → f j ≡ g j) → seg f i n ≡ seg g i n
  unfolding seg
  seg_ext f g zero i h = refl
  seg_ext f g (suc n) i h =
      let a = h i (omega arith) (omega arith) in
      let b = seg_ext f g n (suc i) (λ j p q. h j (omega arith) (omega arith)) in
      λ z. a z ∷ b z

  -- one more at the end
  pub seg_more : (f : ℕ → A) (n : ℕ) → seg f 0 (n + 1) ≡ seg f 0 n ++ (f n ∷ [])
  unfolding seg
  seg_more f n = ap (seg f 0) (add-one n) ∙ go n 0 ∙ ap (λ (j : ℕ). seg f 0 n ++ (f j ∷ [])) (let e : 0 + n ≡ n = omega arith in e)
    where
      go : (n i : ℕ) → seg f i (suc n) ≡ seg f i n ++ (f (i + n) ∷ [])
      go zero i = ap (λ (j : ℕ). f j ∷ []) (let e : i ≡ i + 0 = omega arith in e)
      go (suc n) i =
          ap (λ (l : List A). f i ∷ l) (go n (suc i) ∙ ap (λ (j : ℕ). seg f (suc i) n ++ (f j ∷ [])) (let e : suc i + n ≡ i + suc n = omega arith in e))

  -- from p on: one fewer at the front, none, all
  pub seg-next : (f : ℕ → A) (p n : ℕ) → p < n → seg f p (n - p) ≡ f p ∷ seg f (p + 1) (n - (p + 1))
  unfolding seg
  seg-next f p n h =
      ap (seg f p) (let e : n - p ≡ suc (n - (p + 1)) = omega arith in e) ∙ ap (λ (j : ℕ). f p ∷ seg f j (n - (p + 1))) (sym (add-one p))

  pub seg_end : (f : ℕ → A) (p n : ℕ) → n ≤ p → seg f p (n - p) ≡ []
  unfolding seg
  seg_end f p n h = ap (seg f p) (let e : n - p ≡ 0 = omega arith in e)

  pub seg_whole : (f : ℕ → A) (n : ℕ) → seg f 0 (n - 0) ≡ seg f 0 n
  seg_whole f n = ap (seg f 0) (let e : n - 0 ≡ n = omega arith in e)

  -- what is in it
  pub seg_in : (f : ℕ → A) (n i : ℕ) (a : A) → In a (seg f i n) → (j : ℕ) × (i ≤ j) × (j < i + n) × (a ≡ f j)
  unfolding seg
  seg_in f zero i a m = absurd (not-nil m)
  seg_in f (suc n) i a m =
      ⊎_elim (λ (e : a ≡ f i). (i, omega arith, omega arith, e))
      (λ (k : In a (seg f (suc i) n)). let z = seg_in f n (suc i) a k in (z.0, omega (arith, z.1), omega (arith, z.2), z.3)) (uncons m)

  pub seg-has : (f : ℕ → A) (n j : ℕ) → j < n → In (f j) (seg f 0 n)
  unfolding seg
  seg-has f n j l = go n 0 (omega arith) (omega arith)
    where
      go : (n i : ℕ) → i ≤ j → j < i + n → In (f j) (seg f i n)
      go zero i a b = absurd (omega arith)
      go (suc n) i a b = ⊎_elim (λ (e : i ≡ j). rw (← e) (here refl)) (λ (l : i < j). there (go n (suc i) l (omega arith))) (eq-or-lt_of_le a)

  -- the search of the rules is that of the observer
  pub has-any : (p : A → Bool) (f : ℕ → A) (n : ℕ) → has p (seg f 0 n) ≡ any (λ j. p (f j)) n
  unfolding has seg scan
  has-any p f n = go n 0 ∙ ap (ltb (scan (λ j. p (f j)) 0 n)) (let e : 0 + n ≡ n = omega arith in e)
    where
      go : (n i : ℕ) → has p (seg f i n) ≡ ltb (scan (λ j. p (f j)) i n) (i + n)
      go zero i = sym (le-ltb i (i + 0) (omega arith))
      go (suc n) i = by (p (f i)) (go n (suc i))
        where
          by : (b : Bool) → has p (seg f (suc i) n) ≡ ltb (scan (λ j. p (f j)) (suc i) n) (suc i + n) →
              (b || has p (seg f (suc i) n)) ≡ ltb (cond b i (scan (λ j. p (f j)) (suc i) n)) (i + suc n)
          by true e = sym (lt-ltb i (i + suc n) (omega arith))
          by false e = e ∙ ap (ltb (scan (λ j. p (f j)) (suc i) n)) (let q : suc i + n ≡ i + suc n = omega arith in q)

pub seg-map : {A B : Type 0} (h : A → B) (f : ℕ → A) (n i : ℕ) → map h (seg f i n) ≡ seg (λ j. h (f j)) i n
unfolding seg
seg-map h f zero i = refl
seg-map {B = B} h f (suc n) i = ap (λ (l : List B). h (f i) ∷ l) (seg-map h f n (suc i))

-- what stands at a place of it
pub seg_at : (f : ℕ → ℕ) (n i : ℕ) → i < n → get_or (seg f 0 n) i 0 ≡ f i
unfolding seg
seg_at f n i l = go n 0 i l ∙ ap f (let e : 0 + i ≡ i = omega arith in e)
  where
    go : (n j i : ℕ) → i < n → get_or (seg f j n) i 0 ≡ f (j + i)
    go zero j i l = absurd (omega arith)
    go (suc n) j zero l = ap f (let e : j ≡ j + 0 = omega arith in e)
    go (suc n) j (suc i) l = go n (suc j) i (omega arith) ∙ ap f (let e : suc j + i ≡ j + suc i = omega arith in e)
