-- A plan: its tests, owner by owner, the sums over the owners, and the plan laid over a table.
use Rattle.std.proofs.Common.{ℕ, zero, suc, ◌+◌, ◌*◌, ◌<◌, ◌≤◌, ◌≡◌, ◌∙◌, refl, sym, ap, ◌⊎◌, inl, inr, true, false, List, map, sum}
use Rattle.std.proofs.Common.{arith, add-one, lt-ltb, le-ltb, ltb-false, ltb, get_or, set}
use Rattle.std.specs.List.{range_with_len}
use Rattle.std.proofs.lemmas.List.FromFn.{sum_by-map-range_with_len_more}
use Rattle.rules.specs.Tests.{sum_to, one_of}
use Rattle.rules.specs.Layout.{owners, seat_count, share, limit}
use Rattle.rules.specs.Plan.{bad_share, bad_plan, laid}
use Rattle.rows.specs.Search.{Passed, some_passes, none_passes, none_at}
use Rattle.rows.specs.Fine.{none_of}

-- AN OWNER'S SHARE AND LIMIT
module _ (plan : List ℕ) (o : ℕ) {s l : ℕ} (a : s ≡ share plan o) (b : l ≡ limit plan o) where
  pub share_bad : (l < s) ⊎ ((s ≤ l) × (seat_count < l)) → bad_share plan o ≡ true
  unfolding bad_share one_of
  share_bad (inl h) = simp (← a, ← b, lt-ltb _ _ h)
  share_bad (inr h) = simp (← a, ← b, le-ltb _ _ h.0, lt-ltb _ _ h.1)

  pub share_good : s ≤ l → l ≤ seat_count → bad_share plan o ≡ false
  unfolding bad_share one_of
  share_good k h = simp (← a, ← b, le-ltb _ _ k, le-ltb _ _ h)

-- THE PLAN: bad by one of them, or by the sum
pub bad_at : (plan : List ℕ) (o : ℕ) → Passed (bad_share plan) owners o → o < owners → bad_share plan o ≡ true → bad_plan plan ≡ true
unfolding bad_plan one_of
bad_at plan o p l e = simp (some_passes (bad_share plan) owners o p l e)

pub bad_by_sum : (plan : List ℕ) (o : ℕ) {sum : ℕ} → Passed (bad_share plan) owners o → owners ≤ o → sum ≡ sum_to (share plan) o →
    bad_plan plan ≡ ltb seat_count sum
unfolding bad_plan one_of
bad_by_sum plan o p l e =
    let z : o ≡ owners = omega arith in
    rw (none_passes (bad_share plan) owners o p l, e, z)

pub share_small : (plan : List ℕ) (o : ℕ) → bad_plan plan ≡ false → o < owners → share plan o ≤ seat_count
unfolding bad_plan bad_share
share_small plan o e l =
    let r = none_of _ (none_at _ owners o (none_of _ e).0 l) in
    omega (arith, ltb-false (limit plan o) (share plan o) r.0, ltb-false seat_count (limit plan o) r.1.0)

-- THE SUMS over the owners
pub sum_none : (f : ℕ → ℕ) → 0 ≡ sum_to f 0
unfolding sum_to
sum_none f = refl

pub sum_more : (f : ℕ → ℕ) (i : ℕ) {n k : ℕ} → n ≡ sum_to f i → k ≡ f i → n + k ≡ sum_to f (i + 1)
unfolding sum_to
sum_more f i e m = rw (add-one i) (cc)

pub sum_is : (f : ℕ → ℕ) (n : ℕ) → sum (map f (range_with_len 0 n)) ≡ sum_to f n
unfolding sum_to
sum_is f zero = refl
sum_is f (suc n) =
    ap (λ (k : ℕ). sum (map f (range_with_len 0 k))) (sym (add-one n))
    ∙ sum_by-map-range_with_len_more (λ k. k) f 0 n n (omega arith)
    ∙ ap (λ (k : ℕ). k + f n) (sum_is f n)

pub sum_same : (f g : ℕ → ℕ) (n : ℕ) → ((o : ℕ) → o < n → f o ≡ g o) → sum_to f n ≡ sum_to g n
unfolding sum_to
sum_same f g zero h = refl
sum_same f g (suc n) h = rw (sum_same f g n (λ o l. h o (omega arith)), h n (omega arith))

pub sum_le : (f : ℕ → ℕ) (n : ℕ) → ((o : ℕ) → o < n → f o ≤ seat_count) → sum_to f n ≤ seat_count * n
unfolding sum_to
sum_le f zero h = omega arith
sum_le f (suc n) h = omega (arith, h n (omega arith), sum_le f n (λ o l. h o (omega arith)))

-- THE PLAN LAID over a table
pub laid_none : (l plan : List ℕ) → l ≡ laid l plan 0
unfolding laid
laid_none l plan = refl

pub laid_more : (l₀ plan : List ℕ) (i : ℕ) {l l' : List ℕ} {v : ℕ} → l ≡ laid l₀ plan i → v ≡ get_or plan i 0 → l' ≡ set l i v →
    l' ≡ laid l₀ plan (i + 1)
unfolding laid
laid_more l₀ plan i e q m = rw (add-one i) (cc)
