-- The loop that makes room for a write entry: the last number first, so that the one read is still as it was.
use Rattle.std.proofs.Common.{ℕ, zero, suc, ◌+◌, ◌-◌, ◌≤◌, ◌<◌, ◌≡◌, refl, ◌∙◌, List, arith}
use Rattle.rules.specs.Layout.{row_width, cell, put}
use Rattle.rules.specs.Places.{cell-put_field}
use Rattle.rules.specs.Work.{slid}

module _ (l : List ℕ) (s e w : ℕ) (some : 0 < w) (room : e + w ≤ row_width) where
  -- the places that are still to be moved
  slid_below : (k j : ℕ) → j + k < e → cell (slid l s e w k) s j ≡ cell l s j
  unfolding slid
  slid_below zero j h = refl
  slid_below (suc k) j h =
      cell-put_field (slid l s e w k) s (e - suc k + w) (cell l s (e - suc k)) j (omega arith) (λ z. omega arith) ∙ slid_below k j (omega arith)

  pub slid-none : l ≡ slid l s e w (e - e)
  unfolding slid
  slid-none = rw (let z : e - e ≡ 0 = omega arith in z)

  pub slid_more : (p : ℕ) {m m' : List ℕ} {v : ℕ} → 0 < p → p ≤ e →
      m ≡ slid l s e w (e - p) → v ≡ cell m s (p - 1) → m' ≡ put m s (p - 1 + w) v → m' ≡ slid l s e w (e - (p - 1))
  unfolding slid
  slid_more p {m} {m'} {v} a b q r t =
      let n : e - (p - 1) ≡ suc (e - p) = omega arith in
      let k : e - suc (e - p) ≡ p - 1 = omega arith in
      let was : v ≡ cell l s (p - 1) = r ∙ rw q (slid_below (e - p) (p - 1) (omega arith)) in
      rw (n, k) (cc)
