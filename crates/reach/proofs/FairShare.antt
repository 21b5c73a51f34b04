-- No queue without a fair share: the theorem of specs/FairShare.
use Prim.Native.Nat.{ℕ, zero, suc, ◌<◌, ◌≤◌}
use mathlib.Core.Path.{◌≡◌, refl, sym, ap, ◌∙◌}
use mathlib.Core.Logic.{◌≢◌, ◌⊎◌, inl, inr, ⊎_elim}
use mathlib.Core.Bool.{Bool, not}
use mathlib.Core.List.{List}
use native.Mathlib.Omega.{arith}
use borrow.Author.Tests.{eqb-true, eqb-false, ne_eqb, leb-true, leb-false}
use lib.Dec.{eqb, leb}
use Rattle.rules.specs.Tests.{count, sum_to}
use Rattle.rules.specs.Layout.{owners, seat_count, share_at, limit_at, row, phase, owner}
use Rattle.rules.specs.Places.{length-row}
use Rattle.rules.specs.Tables.{Tables, Outcome, with_seats, answered}
use Rattle.rules.specs.Answers.{seat, refused, kind, number}
use Rattle.rules.specs.Plan.{holds, held, claims, crowded, open_refusal, is_free, free_seat, opened, open_seat}
use Rattle.rules.specs.Calls.{Open, step}
use Rattle.rules.specs.declared.Answer.TheVariants.{Seat, Refused}
use Rattle.rows.specs.Sums.{sum_add}
use Rattle.rows.specs.Changed.{opened-row}
use Rattle.rows.specs.Becomes.{becomes_opened}
use Rattle.reach.specs.Reached.{Reached, seen}
use Rattle.reach.specs.Counts.{is_of, seats_of}
use Rattle.reach.specs.FairShare.{holding, share_of, limit_of, U, asks, Given, Fair, FairShare}
use Rattle.reach.proofs.Tests.{by, before_first}
use Rattle.reach.proofs.Count.{one, sum_same, sum_change, count_same}
use Rattle.reach.proofs.InOrder.{InOrder}
use Rattle.reach.proofs.WithinPlan.{held_by, held_mine, held-not, held-free, planned}
use Rattle.reach.proofs.Opens.{open_refusal_lem, open_no_owner, free-seat}
use Rattle.reach.proofs.Reached.{reached_in_order}
use Rattle.reach.proofs.Observed.{seat_is, plan-stays}

-- what Open comes to
pub opens : (t : Tables) (o : ℕ) → open_refusal t o ≡ 0 →
    step t (Open o) ≡ answered (Seat (free_seat t.seats)) (with_seats t (opened t.seats (free_seat t.seats) o))
unfolding step open_seat
opens t o e = rw e refl

pub opens_not : (t : Tables) (o n : ℕ) → n ≢ 0 → open_refusal t o ≡ n → asks t o ≡ Refused n
opens_not t o n d e = ap (λ (z : Outcome). z.answer) same
  where
    same : step t (Open o) ≡ answered (Refused n) t
    same = unfold step open_seat in rw (e, ne_eqb n 0 d) refl

-- the three answers to an owner
pub data Asked (t : Tables) (o : ℕ) : Type 0 where
  at_limit : holding t o ≡ limit_of t o → asks t o ≡ Refused 6 → Asked t o
  no_room : holding t o ≢ limit_of t o → share_of t o ≤ holding t o → U t ≡ seat_count → asks t o ≡ Refused 7 → Asked t o
  gets_seat : holding t o ≢ limit_of t o → ((holding t o < share_of t o) ⊎ (U t ≢ seat_count)) → open_refusal t o ≡ 0 → Asked t o

pub asked : (t : Tables) → InOrder t → (o : ℕ) → o < owners → Asked t o
unfolding crowded
asked t k o small =
    let e = open_refusal_lem t k o small in
    let most = k.within.limits o small in
    by (leb (limit_of t o) (holding t o))
    (λ a. let x = leb-true (limit_of t o) (holding t o) a in at_limit (omega arith) (opens_not t o 6 (omega arith) (e ∙ rw a refl)))
    (λ a. let x = leb-false (limit_of t o) (holding t o) a in
    let below : holding t o ≢ limit_of t o = omega arith in
    by (leb (share_of t o) (holding t o))
    (λ b. by (eqb (claims t.seats) seat_count)
    (λ c. no_room below (leb-true _ _ b) (eqb-true _ _ c) (opens_not t o 7 (omega arith) (e ∙ rw (a, b, c) refl)))
    (λ c. gets_seat below (inr (eqb-false _ _ c)) (e ∙ rw (a, b, c) refl)))
    (λ b. gets_seat below (inl (leb-false _ _ b)) (e ∙ rw (a, b) refl)))

module _ (t : Tables) (k : InOrder t) (o : ℕ) (small : o < owners) where
  told-seat : open_refusal t o ≡ 0 → asks t o ≡ Seat (free_seat t.seats)
  told-seat e = ap (λ (z : Outcome). z.answer) (opens t o e)

  pub given : open_refusal t o ≡ 0 → Given t o (free_seat t.seats)
  unfolding free_seat is_free
  given e =
      let f = free-seat t k o e in
      let s : ℕ = free_seat t.seats in
      let b = becomes_opened t.seats s o (length-row t.seats s k.sized.rows f.0) in
      record {
        in_range = f.0;
        was_free = f.1;
        lowest = λ j l. eqb-false _ _ (before_first (is_free t.seats) seat_count j l);
        now_open = rw (opens t o e, b.own) (opened-row o).is_phase;
        now_owned = rw (opens t o e, b.own) (opened-row o).is_owner;
      }

  fair_from : Asked t o → Fair t o
  fair_from (at_limit a e) =
      let kd : kind (asks t o) ≡ refused = ap kind e in
      let sh = (planned t.seats k.within.plan).shares o small in
      record {
        below_share = λ h. absurd (omega arith);
        six = (λ q. a, λ q. e);
        seven = λ d. absurd (d a);
        else_seat = (λ q. absurd (omega arith), λ q. absurd (q.0 a));
        lowest_given = λ q. absurd (omega arith);
        within-limit = k.within.limits o small;
        share-within = sh;
      }
  fair_from (no_room d h u e) =
      let kd : kind (asks t o) ≡ refused = ap kind e in
      let nr : number (asks t o) ≡ 7 = ap number e in
      record {
        below_share = λ x. absurd (omega arith);
        six = (λ q. absurd (let y : number (asks t o) ≡ 6 = ap number q in omega arith), λ q. absurd (d q));
        seven = λ x y. (λ q. u, λ q. e);
        else_seat = (λ q. absurd (omega arith), λ q. absurd (⊎_elim (λ x. omega arith) (λ x. x u) q.1));
        lowest_given = λ q. absurd (omega arith);
        within-limit = k.within.limits o small;
        share-within = (planned t.seats k.within.plan).shares o small;
      }
  fair_from (gets_seat d h e) =
      let kd : kind (asks t o) ≡ seat = ap kind (told-seat e) in
      record {
        below_share = λ x. kd;
        six = (λ q. absurd (let y : kind (asks t o) ≡ refused = ap kind q in omega arith), λ q. absurd (d q));
        seven = λ x y. (λ q. absurd (let y : kind (asks t o) ≡ refused = ap kind q in omega arith), λ q. absurd (⊎_elim (λ z. omega arith) (λ z. z q) h));
        else_seat = (λ q. (d, h), λ q. kd);
        lowest_given = λ q. rw (told-seat e) (given e);
        within-limit = k.within.limits o small;
        share-within = (planned t.seats k.within.plan).shares o small;
      }

-- a seat in use is held by one owner
module _ (l : List ℕ) where
  sum_none : (n : ℕ) → sum_to (λ o. 0) n ≡ 0
  unfolding sum_to
  sum_none zero = refl
  sum_none (suc n) = let e = sum_none n in omega arith

  one-owner : (s : ℕ) → (phase (row l s) ≢ 0 → owner (row l s) < owners) → sum_to (λ o. one (holds l o s)) owners ≡ one (not (is_free l s))
  unfolding holds is_free held_by
  one-owner s own =
      by (eqb (phase (row l s)) 0)
      (λ e. let m : one (not (is_free l s)) ≡ 0 = ap (λ (b : Bool). one (not b)) e in
      sum_same (λ o. 0) (λ o. one (holds l o s)) owners (λ o h. ap one (held-free (row l s) o (eqb-true _ _ e))) ∙ sum_none owners ∙ sym m)
      (λ e. let used : phase (row l s) ≢ 0 = eqb-false _ _ e in
      let c = sum_change (λ o. 0) (λ o. one (holds l o s)) (owner (row l s)) owners (own used) (λ o h d. ap one (held-not (row l s) o (λ q. d (sym q)))) in
      let m : one (holds l (owner (row l s)) s) ≡ 1 = ap one (held_mine (row l s) (owner (row l s)) used refl) in
      let z = sum_none owners in
      let r : one (not (is_free l s)) ≡ 1 = ap (λ (b : Bool). one (not b)) e in
      omega arith)

  all_held : (n : ℕ) → ((s : ℕ) → s < n → phase (row l s) ≢ 0 → owner (row l s) < owners) →
      count (λ s. not (is_free l s)) n ≡ sum_to (λ o. count (holds l o) n) owners
  unfolding count
  all_held zero own = sym (sum_none owners)
  all_held (suc n) own =
      let i = all_held n (λ s h. own s (omega arith)) in
      let a = sum_add (λ o. count (holds l o) n) (λ o. one (holds l o n)) owners in
      let b = one-owner n (own n (omega arith)) in
      omega arith

-- held seats can be told from calls and answers
pub held-seen : (t : Tables) (z : Reached t) (o : ℕ) → holding t o ≡ seats_of o (seen z)
unfolding held holds
held-seen t z o =
    count_same (λ s. is_of o ((seen z).seats s)) (holds t.seats o) seat_count (λ s. ap (is_of o) (sym (seat_is t z s)))

-- NO QUEUE WITHOUT A FAIR SHARE
pub fair_share : (t : Tables) (z : Reached t) → FairShare t z
unfolding held
fair_share t z =
    let k = reached_in_order t z in
    let p = planned t.seats k.within.plan in
    record {
      each = λ o h. fair_from t k o h (asked t k o h);
      plan-stays = λ o h. (plan-stays t z (share_at o) (omega arith), plan-stays t z (limit_at o) (omega arith));
      held-seen = held-seen t z;
      no_owner = λ o h. opens_not t o 2 (omega arith) (open_no_owner t k o h);
      all_held = all_held t.seats seat_count (λ s h d. ((k.rows s h).in_use d).head.owner_in);
      limits_fit = p.limits;
      shares_fit = p.total;
      U-fits = k.within.claims_fit;
    }
