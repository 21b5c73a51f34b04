-- The pass over the rows: what it holds after one seat more, and at its end; and what Open's tests have from it.
use Rattle.std.proofs.Common.{ltb, ℕ, zero, suc, ◌+◌, ◌*◌, max, ◌<◌, ◌≤◌, ◌≡◌, refl, sym, ap, ◌∙◌, ◌≢◌, Bool, true, false, cond, ◌||◌, List, map, sum, Option}
use Rattle.std.proofs.Common.{Some, None, is_some, unwrap_or, arith, add-one, eq-eqb, ne_eqb, eqb-true, eqb, length, get_or, set, replicate}
use Rattle.std.proofs.Common.{length-set, get_or-set_same, get_or-set_other}
use Rattle.std.proofs.lemmas.Bool.{eqb-false, lt-leb}
use Rattle.std.specs.Option.{option_or}
use Rattle.std.specs.List.{range_with_len}
use Rattle.std.proofs.Math.Decide.{dec_lt}
use Rattle.std.proofs.lemmas.List.{length-replicate, get_or-replicate}
use Rattle.std.proofs.Math.ListN.{get_or-eq_default}
use Rattle.rules.specs.Tests.{any, count, one_of}
use Rattle.rules.specs.Layout.{owners, seat_count, free, share, limit}
use Rattle.rules.specs.Tables.{Tables}
use Rattle.rules.specs.Refusals.{unsized}
use Rattle.rules.specs.Plan.{bad_plan, bad_row, over_limit, holds, held, claim, claims, unsound, plan_refusal, open_refusal, is_free, free_seat}
use Rattle.rows.specs.Search.{Passed, passed_more, found_first, found_none, none_passes}
use Rattle.plan.specs.Census.{RowOf, Counts, Lowest, Sound, Planned}
use Rattle.plan.proofs.Plans.{share_small, sum_is, sum_le, sum_same}

-- THE SEATS HELD
count_le : (p : ℕ → Bool) (n : ℕ) → count p n ≤ n
unfolding count
count_le p zero = omega arith
count_le p (suc n) = one (p n) (count_le p n)
  where
    one : (b : Bool) → count p n ≤ n → count p n + cond b 1 0 ≤ suc n
    one true h = omega arith
    one false h = omega arith

pub counts_none : (seats : List ℕ) → Counts seats (replicate owners 0) 0
unfolding count
counts_none seats = record { wide = length-replicate {A = ℕ} owners 0; each = λ o l. get_or-replicate {A = ℕ} owners o 0 0 l }

module _ (seats : List ℕ) {counts : List ℕ} (n : ℕ) (h : Counts seats counts n) where
  pub held_small : (o : ℕ) → get_or counts o 0 ≤ n
  held_small o = go (dec_lt o owners)
    where
      go : Dec (o < owners) → get_or counts o 0 ≤ n
      go (yes l) = omega (arith, h.each o l, count_le (holds seats o) n)
      go (no l) =
          let e = get_or-eq_default counts 0 {n = o} (omega arith) in
          omega arith

  -- a free row is nobody's
  pub counts_free : {ph w : ℕ} → RowOf seats n ph w → ph ≡ free → Counts seats counts (n + 1)
  unfolding count holds
  counts_free q e =
      record { wide = h.wide; each = λ o l. simp (add-one n, ← q.phase_is, eq-eqb _ _ e) (omega (arith, h.each o l)) }

  -- one that is not free is one more for its owner
  pub counts_taken : {ph w : ℕ} {counts' : List ℕ} → RowOf seats n ph w → ph ≢ free → counts' ≡ set counts w (get_or counts w 0 + 1) →
      Counts seats counts' (n + 1)
  unfolding count holds
  counts_taken {ph} {w} q e m =
      record {
        wide = rw m (simp length-set h.wide);
        each = λ o l. rw (m, add-one n) (simp (← q.phase_is, ← q.owner_is, ne_eqb _ _ e) (each o l (eqb w o) refl));
      }
    where
      each : (o : ℕ) → o < owners → (d : Bool) → eqb w o ≡ d →
          get_or (set counts w (get_or counts w 0 + 1)) o 0 ≡ count (holds seats o) n + cond d 1 0
      each o l true z =
          let same : w ≡ o = eqb-true w o z in
          let long : o < length counts = omega arith in
          rw (same, get_or-set_same counts o (get_or counts o 0 + 1) 0) (ap (λ (k : ℕ). k + 1) (h.each o l))
      each o l false z =
          let other : w ≢ o = eqb-false w o z in
          get_or-set_other counts w o (get_or counts w 0 + 1) 0 (λ q. other (sym q)) ∙ omega (arith, h.each o l)

-- THE LOWEST FREE SEAT
module _ (seats : List ℕ) (i : ℕ) where
  -- seat i is free, and the lowest one unless one was found already
  pub lowest_here : (free : Option ℕ) → Lowest seats i free → i < seat_count → is_free seats i ≡ true → Lowest seats (i + 1) (option_or free (Some i))
  unfolding free_seat
  lowest_here None f l e = sym (found_first (is_free seats) seat_count i f l e)
  lowest_here (Some s) f l e = f

  -- or it is not
  pub lowest_past : (free : Option ℕ) → Lowest seats i free → i < seat_count → is_free seats i ≡ false → Lowest seats (i + 1) free
  lowest_past None f l e = passed_more (is_free seats) seat_count i f l e
  lowest_past (Some s) f l e = f

  lowest_end : (free : Option ℕ) → Lowest seats i free → seat_count ≤ i → unwrap_or free seat_count ≡ free_seat seats
  unfolding free_seat
  lowest_end None f l = sym (found_none (is_free seats) seat_count i f l)
  lowest_end (Some s) f l = f

-- THE END OF THE PASS
pub census_sound : (seats counts : List ℕ) (i : ℕ) (free : Option ℕ) → Passed (bad_row seats) seat_count i → Counts seats counts i → Lowest seats i free →
    seat_count ≤ i → Sound seats counts free
census_sound seats counts i free p h f l =
    let e : i ≡ seat_count = omega arith in
    record { rows_good = none_passes _ _ _ p l; counts_are = rw (sym e) h; free_is = lowest_end seats i free f l }

-- a free seat is found where the lowest one is a seat
pub is_found : (free : Option ℕ) → unwrap_or free seat_count < seat_count → is_some free ≡ true
is_found None l = absurd (omega arith)
is_found (Some s) l = refl

-- WHAT OPEN'S TESTS HAVE FROM IT
module _ (seats : List ℕ) {counts : List ℕ} (h : Counts seats counts seat_count) where
  pub held_is : (o : ℕ) → o < owners → get_or counts o 0 ≡ held seats o
  unfolding held
  held_is o l = h.each o l

  -- whether an owner is over its limit
  pub over_exactly : (o : ℕ) → o < owners → {b : Bool} → b ≡ ltb (limit seats o) (get_or counts o 0) → b ≡ over_limit seats o
  unfolding over_limit
  over_exactly o l e = e ∙ ap (ltb (limit seats o)) (held_is o l)

  pub claim_is : (o : ℕ) {r m s : ℕ} → o < owners → m ≡ get_or counts o 0 → s ≡ share seats o → r ≡ max m s → r ≡ claim seats o
  unfolding claim
  claim_is o l a b e =
      let q = held_is o l in
      cc

  pub claim_small : (o : ℕ) → bad_plan seats ≡ false → o < owners → claim seats o ≤ seat_count
  unfolding claim
  claim_small o e l = omega (arith, held_small seats seat_count h o, held_is o l, share_small seats o e l)

-- U can be summed up: all seats are counted, and no share is above 64
pub planned : {seats counts : List ℕ} {free : Option ℕ} → Sound seats counts free → bad_plan seats ≡ false → Planned seats counts
planned s good = record { counts_are = s.counts_are; plan_good = good }

-- U, as the code sums it up
pub claims_are : {seats counts : List ℕ} → Planned seats counts →
    sum (map (λ o. max (get_or counts o 0) (share seats o)) (range_with_len 0 owners)) ≡ claims seats
unfolding claims
claims_are {seats} {counts} h =
    sum_is (λ o. max (get_or counts o 0) (share seats o)) owners
    ∙ sum_same _ _ owners (λ o l. claim_is seats h.counts_are o l refl refl refl)

-- and it is far from the end of 64 bits
pub claims_small : {seats counts : List ℕ} → Planned seats counts → claims seats ≤ seat_count * owners
unfolding claims
claims_small {seats} h = sum_le (claim seats) owners (λ o l. claim_small seats h.counts_are o h.plan_good l)

-- once Open's first two tests have passed, the plan decides
pub by-plan : (t : Tables) (o : ℕ) → unsized (length t.values) (length t.words) (length t.seats) ≡ false → o < owners →
    open_refusal t o ≡ plan_refusal t.seats o
unfolding open_refusal
by-plan t o n l = simp (n, lt-leb _ _ l)

-- a bad row is refused
pub row_refused : (seats : List ℕ) (o : ℕ) → any (bad_row seats) seat_count ≡ true → plan_refusal seats o ≡ 3
unfolding plan_refusal unsound one_of
row_refused seats o e = simp e (either (bad_plan seats) _)
  where
    either : (b : Bool) (x : ℕ) → cond (b || true) 3 x ≡ 3
    either true x = refl
    either false x = refl
