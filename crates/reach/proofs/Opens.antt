-- Open: what it is refused for, and the row that it gives.
use Prim.Native.Nat.{ℕ, ◌<◌, ◌≤◌}
use mathlib.Core.Path.{◌≡◌, refl, ap, ◌∙◌}
use mathlib.Core.Logic.{◌≢◌}
use mathlib.Core.Bool.{Bool, true, false, cond, not}
use mathlib.Core.List.{List}
use native.Mathlib.Omega.{arith}
use borrow.Author.Tests.{eqb-true, eqb-false, ne_eqb, eq-eqb, leb-false, le-ltb, le-leb, lt-leb}
use lib.Dec.{leb, eqb}
use lib.ListN.{length, take}
use Rattle.rules.specs.Layout.{owners, seat_count, most_records, seats_length, position_at, reads_at, writes_at, time_at}
use Rattle.rules.specs.Layout.{row, phase, owner, position, reads, writes, time, share, limit}
use Rattle.rules.specs.Places.{length-row}
use Rattle.rules.specs.Tables.{Tables, answered, with_seats}
use Rattle.rules.specs.Refusals.{unsized}
use Rattle.rules.specs.Plan.{bad_row, held, claims, over_limit, unsound, crowded, open_refusal, is_free, free_seat, opened, plan_refusal, owner_refusal}
use Rattle.rules.specs.declared.Answer.TheVariants.{Seat}
use Rattle.rows.specs.Search.{none_any, first_hit}
use Rattle.rows.specs.Fine.{not_given}
use Rattle.rows.specs.FreeSeat.{seat_found}
use Rattle.rows.specs.Changed.{opened_row, opened-row}
use Rattle.rows.specs.Becomes.{becomes_opened}
use Rattle.observer.specs.Observer.{given_to}
use Rattle.observer.proofs.Segments.{seg}
use Rattle.observer.proofs.Entries.{read_at, write_at}
use Rattle.reach.specs.Life.{script}
use Rattle.reach.proofs.Tests.{by, all_none}
use Rattle.reach.proofs.Count.{one}
use Rattle.reach.proofs.InOrder.{locks, WithinPlan, InOrder}
use Rattle.reach.proofs.Named.{locks-none}
use Rattle.reach.proofs.Rows.{row-used, to_early, steps_early}
use Rattle.reach.proofs.WithinPlan.{within_open}
use Rattle.reach.proofs.Steps.{seen_as, left-none, Change, Tells}
use Rattle.reach.proofs.Freed.{locks-free}

-- tables in order are sized and sound
pub not-unsized : (t : Tables) → InOrder t → unsized (length t.values) (length t.words) (length t.seats) ≡ false
unfolding unsized
not-unsized t k =
    let z = k.sized in
    all_none _ (
      rw (eq-eqb _ _ z.same) refl,
      (
        ne_eqb (length t.words) 0 (let h = z.some in omega arith),
        (
          le-ltb most_records (length t.words) z.few,
          (rw (eq-eqb (length t.seats) seats_length z.rows) refl, tt),
        ),
      ),
    )

pub not-unsound : (t : Tables) → InOrder t → unsound t.seats ≡ false
unfolding unsound bad_row over_limit
not-unsound t k =
    all_none _ (
      k.within.plan,
      (
        none_any _ seat_count (λ s h. by (eqb (phase (row t.seats s)) 0)
            (λ e. let z = eqb-true (phase (row t.seats s)) 0 e in all_none _ (le-ltb 4 (phase (row t.seats s)) (omega arith), (rw e refl, tt)))
            (λ e. let u = (k.rows s h).in_use (eqb-false _ _ e) in
            all_none _ (le-ltb 4 (phase (row t.seats s)) u.head.phase_in, (rw e (lt-leb owners (owner (row t.seats s)) u.head.owner_in), tt)))),
        (
          none_any _ owners (λ o h. le-ltb (limit t.seats o) (held t.seats o) (k.within.limits o h)),
          (le-ltb seat_count (claims t.seats) k.within.claims_fit, tt),
        ),
      ),
    )

-- Open that is not refused
pub record MayOpen (t : Tables) (o : ℕ) : Type 0 where
  pub owner_in : o < owners
  pub below : held t.seats o < limit t.seats o
  pub fair : share t.seats o ≤ held t.seats o → claims t.seats ≢ seat_count

never_three : (a b d : Bool) → ◌≢◌ {A = ℕ} (cond a 2 (cond b 6 (cond d 7 0))) 3
never_three true b d = omega arith
never_three false true d = omega arith
never_three false false true = omega arith
never_three false false false = omega arith

module _ (t : Tables) (k : InOrder t) (o : ℕ) where
  pub open_fair : open_refusal t o ≢ 3
  unfolding open_refusal plan_refusal owner_refusal
  open_fair =
      rw (not-unsized t k, not-unsound t k)
      (never_three (leb owners o) (leb (limit t.seats o) (held t.seats o)) (crowded t.seats o))

  pub open_refusal_lem : o < owners → open_refusal t o ≡ cond (leb (limit t.seats o) (held t.seats o)) 6 (cond (crowded t.seats o) 7 0)
  unfolding open_refusal plan_refusal owner_refusal
  open_refusal_lem h = rw (not-unsized t k, lt-leb owners o h, not-unsound t k) refl

  pub open_no_owner : owners ≤ o → open_refusal t o ≡ 2
  unfolding open_refusal
  open_no_owner h = rw (not-unsized t k, le-leb owners o h) refl

  pub may_open : open_refusal t o ≡ 0 → MayOpen t o
  unfolding open_refusal plan_refusal owner_refusal crowded
  may_open e =
      let seats : List ℕ = t.seats in
      let sized = not_given (unsized (length t.values) (length t.words) (length seats)) 0 e in
      let owner_in = not_given (leb owners o) 1 sized.1 in
      let sound = not_given (unsound seats) 2 owner_in.1 in
      let below = not_given (leb (limit seats o) (held seats o)) 5 sound.1 in
      let uncrowded = not_given (crowded seats o) 6 {n = 0} below.1 in
      record {
        owner_in = leb-false owners o owner_in.0;
        below = leb-false (limit seats o) (held seats o) below.0;
        fair = λ h. eqb-false (claims seats) seat_count (rw (le-leb _ _ h) at uncrowded.0);
      }

  pub free-seat : open_refusal t o ≡ 0 → (free_seat t.seats < seat_count) × (phase (row t.seats (free_seat t.seats)) ≡ 0)
  unfolding free_seat is_free
  free-seat e = let l = seat_found t o e in (l, eqb-true _ 0 (first_hit (is_free t.seats) seat_count l))

  -- the row that it gives
  module _ (s : ℕ) (small : s < seat_count) (free : phase (row t.seats s) ≡ 0) where
    abbrev h : List ℕ
    h = opened_row o

    pub open_change : o < owners → Change t (answered (Seat s) (with_seats t (opened t.seats s o))).tables s (opened_row o)
    open_change b =
        let z = opened-row o in
        let d0 : phase h ≡ 1 = z.is_phase in
        let d1 : owner h ≡ o = z.is_owner in
        let d2 : position h ≡ 0 = z.rest position_at (omega arith) (omega arith) in
        let d3 : reads h ≡ 0 = z.rest reads_at (omega arith) (omega arith) in
        let d4 : writes h ≡ 0 = z.rest writes_at (omega arith) (omega arith) in
        let d5 : time h ≡ 0 = z.rest time_at (omega arith) (omega arith) in
        record {
          becomes = becomes_opened t.seats s o (length-row t.seats s k.sized.rows small);
          values = refl;
          words = refl;
          in_order = row-used
              (record {
                head = omega arith;
                entries = record {
                  reads_in = omega arith;
                  writes_in = omega arith;
                  read_in_lem = λ i a. absurd (omega arith);
                  write_in_lem = λ i a. absurd (omega arith);
                  distinct = λ i j a e. absurd (omega arith);
                  ascending = λ i j a e. absurd (omega arith);
                  ordered = λ i a. absurd (omega arith);
                  kept_timely = λ i a. absurd (omega arith);
                  no_read = λ f a e. z.rest f (omega arith) (omega arith);
                  no_write = λ f a e. z.rest f (omega arith) (omega arith);
                };
                not_below = λ a. absurd (omega arith);
              });
          locked = λ x a e.
              let n0 : one (locks (row t.seats s) x) ≡ 0 = ap one (locks-free (row t.seats s) ((k.rows s small).free free) x) in
              let n1 : one (locks h x) ≡ 0 = ap one (locks-none h x (let y = to_early h (omega arith) in omega arith)) in
              omega arith;
          timely = λ x a e. e;
        }

    pub open_tells : Tells (λ x a. given_to o) (row t.seats s) (opened_row o) (Seat s)
    unfolding seg
    open_tells =
        let z = opened-row o in
        let d0 : phase h ≡ 1 = z.is_phase in
        let none : phase h ≢ 4 = omega arith in
        record {
          shown =
              seen_as h (given_to o)
              (record {
                is_open = ap not (ne_eqb (phase h) 0 (omega arith));
                is_holder = z.is_owner;
                is_advances = ap (λ (n : ℕ). take n (script (writes h) (reads h)))
                    (steps_early h (omega arith) ∙ z.rest position_at (omega arith) (omega arith));
                is_sealed = ne_eqb (phase h) 4 none;
                shows = record {
                  is_reads = ap (seg (read_at h) 0) (z.rest reads_at (omega arith) (omega arith));
                  is_writes = ap (seg (write_at h) 0) (z.rest writes_at (omega arith) (omega arith));
                };
                is_locked = λ x. locks-none h x (let y = to_early h (omega arith) in let p = z.rest position_at (omega arith) (omega arith) in omega arith);
                is_key = z.rest time_at (omega arith) (omega arith);
                is_left = left-none h none;
              });
          fair = λ e. absurd (omega arith);
          plain = λ e. omega arith;
        }

    pub open_within : MayOpen t o → WithinPlan (opened t.seats s o)
    open_within r =
        let z = opened-row o in
        let d0 : phase h ≡ 1 = z.is_phase in
        within_open (becomes_opened t.seats s o (length-row t.seats s k.sized.rows small)) small o r.owner_in free (omega arith)
        z.is_owner r.below r.fair k.within
