-- An ascending run of n numbers e with x put in at place i, as the run d: where each number of d comes from, and that d ascends.
use Prim.Native.Nat.{ℕ, ◌+◌, ◌-◌, ◌<◌, ◌≤◌}
use mathlib.Core.Path.{◌≡◌, refl, sym, ap, ◌∙◌}
use mathlib.Core.Logic.{◌≢◌}
use native.Mathlib.Omega.{arith}
use lib.Dec.{ltb, eqb}
use borrow.Author.Tests.{ltb-true, ltb-false, eqb-true, eqb-false}
use Rattle.reach.proofs.Tests.{by}

pub record Put (d e : ℕ → ℕ) (n i x : ℕ) : Type 0 where
  pub fits : i ≤ n
  pub at : d i ≡ x
  pub low : (j : ℕ) → j < i → d j ≡ e j
  pub high : (j : ℕ) → i ≤ j → j < n → d (j + 1) ≡ e j

pub data Origin (d e : ℕ → ℕ) (n i x j : ℕ) : Type 0 where
  old : (k : ℕ) → k < n → k ≡ j → j < i → d j ≡ e k → Origin d e n i x j
  new : j ≡ i → d j ≡ x → Origin d e n i x j
  up : (k : ℕ) → k < n → k + 1 ≡ j → i ≤ k → d j ≡ e k → Origin d e n i x j

module _ {d e : ℕ → ℕ} {n i x : ℕ} (p : Put d e n i x) where
  pub origin : (j : ℕ) → j < n + 1 → Origin d e n i x j
  origin j h =
      let f = p.fits in
      by (ltb j i)
      (λ z. let a = ltb-true j i z in old j (omega arith) refl a (p.low j a))
      (λ z. let a = ltb-false j i z in by (eqb j i)
      (λ y. let q = eqb-true j i y in new q (ap d q ∙ p.at))
      (λ y. let q : j ≢ i = eqb-false j i y in
      let w : (j - 1) + 1 ≡ j = omega arith in
      up (j - 1) (omega arith) w (omega arith) (ap d (sym w) ∙ p.high (j - 1) (omega arith) (omega arith))))

  -- what holds of x and of each number of e holds of each number of d
  pub put_all : (P : ℕ → Type 0) → P x → ((k : ℕ) → k < n → P (e k)) → (j : ℕ) → j < n + 1 → P (d j)
  put_all P new_ok old_ok j h = go (origin j h)
    where
      go : Origin d e n i x j → P (d j)
      go (old k a b f q) = rw q (old_ok k a)
      go (new b q) = rw q new_ok
      go (up k a b f q) = rw q (old_ok k a)

  pub put_ascending : ((j : ℕ) → j < i → e j < x) → ((j : ℕ) → i ≤ j → j < n → x < e j) → ((j k : ℕ) → j < k → k < n → e j < e k) → (j k : ℕ) →
      j < k → k < n + 1 → d j < d k
  put_ascending before behind ascending j k l h = go (origin j (omega arith)) (origin k h)
    where
      go : Origin d e n i x j → Origin d e n i x k → d j < d k
      go (old a a1 a2 a3 a4) (old b b1 b2 b3 b4) = let r = ascending a b (omega arith) b1 in omega arith
      go (old a a1 a2 a3 a4) (new b2 b4) = let r = before a (omega arith) in omega arith
      go (old a a1 a2 a3 a4) (up b b1 b2 b3 b4) = let r = ascending a b (omega arith) b1 in omega arith
      go (new a2 a4) (old b b1 b2 b3 b4) = absurd (omega arith)
      go (new a2 a4) (new b2 b4) = absurd (omega arith)
      go (new a2 a4) (up b b1 b2 b3 b4) = let r = behind b b3 b1 in omega arith
      go (up a a1 a2 a3 a4) (old b b1 b2 b3 b4) = absurd (omega arith)
      go (up a a1 a2 a3 a4) (new b2 b4) = absurd (omega arith)
      go (up a a1 a2 a3 a4) (up b b1 b2 b3 b4) = let r = ascending a b (omega arith) b1 in omega arith
