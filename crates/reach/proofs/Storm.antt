-- The document's storm, step by step: after each Open, who holds how many seats, and which rows are in use.
use Prim.Native.Nat.{ℕ, zero, suc, ◌+◌, ◌<◌, ◌≤◌, max}
use mathlib.Core.Path.{◌≡◌, refl, sym, ap, ◌∙◌, subst}
use mathlib.Core.Logic.{◌≢◌, ⊎_elim}
use mathlib.Core.Bool.{cond}
use mathlib.Core.List.{List, [], ◌∷◌, ◌++◌}
use native.Mathlib.Omega.{arith}
use borrow.Author.Tests.{eqb-true, eqb-false, ne_eqb, ltb-true, ltb-false}
use lib.Dec.{eqb, ltb}
use lib.ListN.{get_or, replicate}
use Rattle.rules.specs.Tests.{sum_to}
use Rattle.rules.specs.Layout.{owners, seat_count, plan_width, phase_at, share_at, limit_at, row, phase, share, limit}
use Rattle.rules.specs.Places.{length-row}
use Rattle.rules.specs.Tables.{Tables, Outcome}
use Rattle.rules.specs.Answers.{ready, kind}
use Rattle.rules.specs.Plan.{holds, held, claim, claims, open_refusal, free_seat}
use Rattle.rules.specs.Calls.{Call, Setup, Open, step, history, told, answers}
use Rattle.rules.specs.declared.Answer.{Answer}
use Rattle.rules.specs.declared.Answer.TheVariants.{Seat, Refused}
use Rattle.rows.specs.Changed.{opened_row, opened-row}
use Rattle.rows.specs.Becomes.{Becomes, becomes_opened}
use Rattle.reach.specs.FairShare.{asks}
use Rattle.reach.specs.Storm.{storm_plan, seats_from, StormWeathered}
use Rattle.reach.proofs.Tests.{by}
use Rattle.reach.proofs.Count.{sum_same, count_none}
use Rattle.reach.proofs.InOrder.{InOrder}
use Rattle.reach.proofs.Script.{front}
use Rattle.reach.proofs.WithinPlan.{held_by, held-free, held_more, held_rest}
use Rattle.reach.proofs.Opens.{free-seat}
use Rattle.reach.proofs.Effects.{effect_of, after_effect}
use Rattle.reach.proofs.Reached.{begun_in_order, begun-free, begun-plan}
use Rattle.reach.proofs.FairShare.{opens, Asked, at_limit, no_room, gets_seat, asked, given}
use Rattle.reach.proofs.Left.{refusal_leaves_all}

-- what owners 0 and 1 have, and the others
unfoldable two : ℕ → ℕ → ℕ → ℕ
two a b o = cond (eqb o 0) a (cond (eqb o 1) b 0)

two_rest : (a b o : ℕ) → 2 ≤ o → two a b o ≡ 0
unfolding two
two_rest a b o h = rw (ne_eqb o 0 (omega arith), ne_eqb o 1 (omega arith)) refl

-- the seats below n are in use and the others free; owner 0 holds a of them, owner 1 holds b
record Crowd (t : Tables) (n a b : ℕ) : Type 0 where
  in_order : InOrder t
  plan : (i : ℕ) → i < plan_width → get_or t.seats i 0 ≡ get_or storm_plan i 0
  helds : (o : ℕ) → held t.seats o ≡ two a b o
  used : (s : ℕ) → s < n → phase (row t.seats s) ≢ 0
  free : (s : ℕ) → n ≤ s → s < seat_count → phase (row t.seats s) ≡ 0

-- the plan's shares, and U
plan_shares : (o : ℕ) → o < owners → share storm_plan o ≡ two 2 3 o
unfolding storm_plan two
plan_shares zero h = refl
plan_shares (suc zero) h = refl
plan_shares (suc (suc o)) h = front 14 0 (64 ∷ 3 ∷ replicate 14 0) o (omega arith) ∙ sym (two_rest 2 3 (suc (suc o)) (omega arith))

sum_two : (x y : ℕ) → sum_to (two x y) owners ≡ x + y
unfolding sum_to two
sum_two x y = omega arith

max-two : (a b c d o : ℕ) → max (two a b o) (two c d o) ≡ two (max a c) (max b d) o
unfolding two
max-two a b c d o =
    by (eqb o 0) (λ e. rw e refl)
    (λ e. rw e (by (eqb o 1) (λ q. rw q refl) (λ q. rw q (omega arith))))

module _ (t : Tables) (n a b : ℕ) (c : Crowd t n a b) where
  crowd_share : (o : ℕ) → o < owners → share t.seats o ≡ two 2 3 o
  crowd_share o h = c.plan (share_at o) (omega arith) ∙ plan_shares o h

  crowd_claims : claims t.seats ≡ max a 2 + max b 3
  unfolding claims claim
  crowd_claims =
      sum_same (two (max a 2) (max b 3)) (claim t.seats) owners (λ o h. rw (c.helds o, crowd_share o h) (max-two a b 2 3 o))
      ∙ sum_two (max a 2) (max b 3)

  -- an Open that is not refused gives seat n
  crowd_next : (o a' b' : ℕ) → o < owners → open_refusal t o ≡ 0 → two a' b' o ≡ two a b o + 1 → ((w : ℕ) → w ≢ o → two a' b' w ≡ two a b w) →
      (asks t o ≡ Seat n) × Crowd (step t (Open o)).tables (suc n) a' b'
  crowd_next o a' b' small e more rest =
      let k = c.in_order in
      let f = free-seat t k o e in
      let s : ℕ = free_seat t.seats in
      let low = (given t k o small e).lowest in
      let at : s ≡ n =
      by (ltb s n)
      (λ q. absurd (c.used s (ltb-true s n q) f.1))
      (λ q. let l = ltb-false s n q in by (ltb n s)
      (λ r. let m = ltb-true n s r in let z = f.0 in absurd (low n m (c.free n (omega arith) (omega arith))))
      (λ r. let m = ltb-false n s r in omega arith)) in
      let z : Becomes t.seats (step t (Open o)).tables.seats n (opened_row o) =
      subst (λ (i : ℕ). Becomes t.seats (step t (Open o)).tables.seats i (opened_row o)) at
      (rw (opens t o e) (becomes_opened t.seats s o (length-row t.seats s k.sized.rows f.0))) in
      let inside : n < seat_count = (let y = f.0 in omega arith) in
      let was : phase (row t.seats n) ≡ 0 = c.free n (omega arith) inside in
      let ph : phase (opened_row o) ≢ 0 = (let y = (opened-row o).is_phase in omega arith) in
      let ow = (opened-row o).is_owner in (
        ap (λ (q : Outcome). q.answer) (opens t o e) ∙ ap Seat at,
        record {
          in_order = after_effect t (Open o) (step t (Open o)) k (effect_of t k (Open o));
          plan = λ i l. z.plan i l ∙ c.plan i l;
          helds = λ w. by (eqb w o)
              (λ q. rw (eqb-true w o q) (held_more z inside o was ph ow ∙ ap (λ (i : ℕ). i + 1) (c.helds o) ∙ sym more))
              (λ q. let d : w ≢ o = eqb-false w o q in held_rest z inside o was ph ow w d ∙ c.helds w ∙ sym (rest w d));
          used = λ j l. by (eqb j n)
              (λ q. rw (eqb-true j n q, z.own) ph)
              (λ q. let d : j ≢ n = eqb-false j n q in rw (z.others j d) (c.used j (omega arith)));
          free = λ j l m. rw (z.others j (omega arith)) (c.free j (omega arith) m);
        },
      )

-- OWNER 0, up to 61 seats, and then none
module _ (t : Tables) (n a : ℕ) (c : Crowd t n a 0) where
  limit-zero : limit t.seats 0 ≡ 64
  unfolding storm_plan
  limit-zero = c.plan (limit_at 0) (omega arith)

  zero-asked : Asked t 0 → a < 61 → open_refusal t 0 ≡ 0
  unfolding two
  zero-asked (at_limit q e) h = absurd (let x = c.helds 0 in let y = limit-zero in omega arith)
  zero-asked (no_room d s u e) h = absurd (let x = crowd_claims t n a 0 c in omega arith)
  zero-asked (gets_seat d s e) h = e

  zero-next : a < 61 → (asks t 0 ≡ Seat n) × Crowd (step t (Open 0)).tables (suc n) (suc a) 0
  unfolding two
  zero-next h =
      crowd_next t n a 0 c 0 (suc a) 0 (omega arith) (zero-asked (asked t c.in_order 0 (omega arith)) h) (omega arith)
      (λ w d. rw (ne_eqb w 0 d) refl)

  zero_full : a ≡ 61 → Asked t 0 → asks t 0 ≡ Refused 7
  unfolding two
  zero_full h (at_limit q e) = absurd (let x = c.helds 0 in let y = limit-zero in omega arith)
  zero_full h (no_room d s u e) = e
  zero_full h (gets_seat d s e) = absurd (⊎_elim (λ r. let x = c.helds 0 in
      let y = crowd_share t n a 0 c 0 (omega arith) in omega arith) (λ r. let x = crowd_claims t n a 0 c in
      r (omega arith)) s)

-- OWNER 1, its three seats, and then none
module _ (t : Tables) (n b : ℕ) (c : Crowd t n 61 b) where
  limit-one : limit t.seats 1 ≡ 3
  unfolding storm_plan
  limit-one = c.plan (limit_at 1) (omega arith)

  one-asked : Asked t 1 → b < 3 → open_refusal t 1 ≡ 0
  unfolding two
  one-asked (at_limit q e) h = absurd (let x = c.helds 1 in let y = limit-one in omega arith)
  one-asked (no_room d s u e) h = absurd (let x = c.helds 1 in let y = crowd_share t n 61 b c 1 (omega arith) in omega arith)
  one-asked (gets_seat d s e) h = e

  one-next : b < 3 → (asks t 1 ≡ Seat n) × Crowd (step t (Open 1)).tables (suc n) 61 (suc b)
  unfolding two
  one-next h =
      crowd_next t n 61 b c 1 61 (suc b) (omega arith) (one-asked (asked t c.in_order 1 (omega arith)) h) (omega arith)
      (λ w d. by (eqb w 0) (λ q. rw q refl) (λ q. rw (q, ne_eqb w 1 d) refl))

  one_full : b ≡ 3 → Asked t 1 → asks t 1 ≡ Refused 6
  unfolding two
  one_full h (at_limit q e) = e
  one_full h (no_room d s u e) = absurd (d (let x = c.helds 1 in let y = limit-one in omega arith))
  one_full h (gets_seat d s e) = absurd (d (let x = c.helds 1 in let y = limit-one in omega arith))

-- one call after the other
asks_then : (t : Tables) (o : ℕ) (cs : List Call) → answers t (Open o ∷ cs) ≡ asks t o ∷ answers (step t (Open o)).tables cs
unfolding history told
asks_then t o cs = refl

refused-then : (t : Tables) (o n : ℕ) (cs : List Call) → asks t o ≡ Refused n → answers t (Open o ∷ cs) ≡ Refused n ∷ answers t cs
refused-then t o n cs e =
    asks_then t o cs ∙ ap (λ (u : Tables). asks t o ∷ answers u cs) (refusal_leaves_all t (Open o) (ap kind e)) ∙ ap (λ (a : Answer). a ∷ answers t cs) e

given_then : (o : ℕ) (P : ℕ → Tables → Type 0) (m n : ℕ) (t : Tables) (cs : List Call) →
    ((i : ℕ) (u : Tables) → i < n + m → P i u → (asks u o ≡ Seat i) × P (suc i) (step u (Open o)).tables) → P n t →
    (u : Tables) × P (n + m) u × (answers t (replicate m (Open o) ++ cs) ≡ seats_from n m ++ answers u cs)
unfolding seats_from
given_then o P zero n t cs f p = (t, subst (λ (i : ℕ). P i t) (let e : n ≡ n + 0 = omega arith in e) p, refl)
given_then o P (suc m) n t cs f p =
    let q = f n t (omega arith) p in
    let r = given_then o P m (suc n) (step t (Open o)).tables cs (λ i u l. f i u (omega arith)) q.1 in (
      r.0,
      subst (λ (i : ℕ). P i r.0) (let e : suc n + m ≡ n + suc m = omega arith in e) r.1,
      asks_then t o (replicate m (Open o) ++ cs)
          ∙ ap (λ (a : Answer). a ∷ answers (step t (Open o)).tables (replicate m (Open o) ++ cs)) q.0
          ∙ ap (λ (l : List Answer). Seat n ∷ l) r.2,
    )

none_yet : (t : Tables) (start : ℕ) → kind (step t (Setup start storm_plan)).answer ≡ ready → Crowd (step t (Setup start storm_plan)).tables 0 0 0
unfolding two held holds held_by
none_yet t start e =
    let u : Tables = (step t (Setup start storm_plan)).tables in
    let z = begun-free t start storm_plan e in
    record {
      in_order = begun_in_order t start storm_plan e;
      plan = begun-plan t start storm_plan e;
      helds = λ o.
          count_none (holds u.seats o) seat_count (λ s h. held-free (row u.seats s) o (z s phase_at (omega arith)))
          ∙ by (eqb o 0) (λ q. rw q refl) (λ q. rw q (by (eqb o 1) (λ r. rw r refl) (λ r. rw r refl)));
      used = λ s h. absurd (omega arith);
      free = λ s h l. z s phase_at (omega arith);
    }

none_then : (t : Tables) → answers t [] ≡ []
unfolding history told
none_then t = refl

-- owner 1, from 61 seats taken
calm : (t : Tables) → Crowd t 61 61 0 → answers t (replicate 3 (Open 1) ++ (Open 1 ∷ [])) ≡ seats_from 61 3 ++ (Refused 6 ∷ [])
calm t c =
    let y = given_then 1 Held 3 61 t (Open 1 ∷ []) held_on (0, omega arith, c) in
    let u : Tables = y.0 in
    let d : Crowd u 64 61 3 = subst (λ (b : ℕ). Crowd u 64 61 b) (let q = y.1.1 in omega arith) y.1.2 in
    y.2 ∙ ap (λ (l : List Answer). seats_from 61 3 ++ l)
    (refused-then u 1 6 [] (one_full u 64 3 d refl (asked u d.in_order 1 (omega arith))) ∙ ap (λ (l : List Answer). Refused 6 ∷ l) (none_then u))
  where
    Held : ℕ → Tables → Type 0
    Held i u = (b : ℕ) × (i ≡ 61 + b) × Crowd u i 61 b

    held_on : (i : ℕ) (u : Tables) → i < 61 + 3 → Held i u → (asks u 1 ≡ Seat i) × Held (suc i) (step u (Open 1)).tables
    held_on i u l p =
        let e = p.1 in
        let q = one-next u i p.0 p.2 (omega arith) in
        (q.0, (suc p.0, omega arith, q.1))

-- THE STORM
pub storm_weathered : StormWeathered
storm_weathered t start e =
    let s : Tables = (step t (Setup start storm_plan)).tables in
    let cs : List Call = replicate 3 (Open 1) ++ (Open 1 ∷ []) in
    let x = given_then 0 (λ i u. Crowd u i i 0) 61 0 s (Open 0 ∷ cs) (λ i u l c. zero-next u i i c (omega arith)) (none_yet t start e) in
    let u : Tables = x.0 in
    let c : Crowd u 61 61 0 = x.1 in
    x.2 ∙ ap (λ (l : List Answer). seats_from 0 61 ++ l)
    (refused-then u 0 7 cs (zero_full u 61 61 c refl (asked u c.in_order 0 (omega arith))) ∙ ap (λ (l : List Answer). Refused 7 ∷ l) (calm u c))
