-- The plan and the seats held under it, after a change of one row.
use Prim.Native.Nat.{ℕ, ◌+◌, ◌<◌, ◌≤◌}
use mathlib.Core.Path.{◌≡◌, refl, sym, ap}
use mathlib.Core.Logic.{◌≢◌}
use mathlib.Core.Bool.{Bool, true, false, not, ◌&&◌, and-false}
use mathlib.Core.List.{List}
use native.Mathlib.Omega.{arith}
use borrow.Author.Tests.{le-ltb, ltb-false, eqb-true, eqb-false, eq-eqb, ne_eqb, leb-true, leb-false}
use lib.Dec.{leb, eqb}
use lib.ListN.{get_or}
use Rattle.rules.specs.Tests.{sum_to}
use Rattle.rules.specs.Layout.{owners, seat_count, plan_width, share_at, limit_at, row, phase, owner, share, limit}
use Rattle.rules.specs.Plan.{bad_share, bad_plan, holds, held, claim, claims}
use Rattle.rows.specs.Search.{none_at, none_any}
use Rattle.rows.specs.Fine.{none_of}
use Rattle.rows.specs.Sums.{sum_mono}
use Rattle.rows.specs.Becomes.{Becomes}
use Rattle.reach.proofs.Tests.{by, all_none}
use Rattle.reach.proofs.Count.{one, one_le, sum_same, sum_change, count_change}
use Rattle.reach.proofs.InOrder.{WithinPlan}

-- a plan that Setup takes
pub record Planned (l : List ℕ) : Type 0 where
  pub shares : (o : ℕ) → o < owners → share l o ≤ limit l o
  pub limits : (o : ℕ) → o < owners → limit l o ≤ seat_count
  pub total : sum_to (share l) owners ≤ seat_count

pub planned : (l : List ℕ) → bad_plan l ≡ false → Planned l
unfolding bad_plan bad_share
planned l e =
    let q = none_of _ e in
    record {
      shares = λ o h. ltb-false _ _ (none_of _ (none_at _ owners o q.0 h)).0;
      limits = λ o h. ltb-false seat_count (limit l o) (none_of _ (none_at _ owners o q.0 h)).1.0;
      total = ltb-false seat_count (sum_to (share l) owners) q.1.0;
    }

plan_good : (l : List ℕ) → Planned l → bad_plan l ≡ false
unfolding bad_plan bad_share
plan_good l p =
    all_none _ (
      none_any _ owners (λ o h. all_none _ (le-ltb _ _ (p.shares o h), (le-ltb seat_count (limit l o) (p.limits o h), tt))),
      (le-ltb seat_count (sum_to (share l) owners) p.total, tt),
    )

-- two tables with the same plan
module _ (l m : List ℕ) (e : (i : ℕ) → i < plan_width → get_or m i 0 ≡ get_or l i 0) where
  pub share-same : (o : ℕ) → o < owners → share m o ≡ share l o
  share-same o h = e (share_at o) (omega arith)

  pub limit-same : (o : ℕ) → o < owners → limit m o ≡ limit l o
  limit-same o h = e (limit_at o) (omega arith)

  pub plan-same : bad_plan l ≡ false → bad_plan m ≡ false
  plan-same b =
      let p = planned l b in
      plan_good m
      (record {
        shares = λ o h. rw (share-same o h, limit-same o h) (p.shares o h);
        limits = λ o h. rw (limit-same o h) (p.limits o h);
        total = rw (sum_same (share l) (share m) owners share-same) p.total;
      })

-- whose row it is
unfoldable pub held_by : List ℕ → ℕ → Bool
held_by g o = not (eqb (phase g) 0) && eqb (owner g) o

pub held_mine : (g : List ℕ) (o : ℕ) → phase g ≢ 0 → owner g ≡ o → held_by g o ≡ true
unfolding held_by
held_mine g o a b = rw (ne_eqb _ _ a, eq-eqb _ _ b) refl

pub held-not : (g : List ℕ) (o : ℕ) → owner g ≢ o → held_by g o ≡ false
unfolding held_by
held-not g o a = rw (ne_eqb _ _ a) (and-false (not (eqb (phase g) 0)))

pub held-free : (g : List ℕ) (o : ℕ) → phase g ≡ 0 → held_by g o ≡ false
unfolding held_by
held-free g o a = rw a refl

-- the same owner holds a row no more than before
pub held_less : (g h : List ℕ) → phase g ≢ 0 → owner h ≡ owner g → (o : ℕ) → one (held_by h o) ≤ one (held_by g o)
held_less g h a b o =
    by (eqb (owner g) o)
    (λ e. rw (held_mine g o a (eqb-true _ _ e)) (one_le (held_by h o)))
    (λ e. rw (held-not h o (rw b (eqb-false _ _ e))) (omega arith))

module _ {s : ℕ} {l m h : List ℕ} (c : Becomes l m s h) (low : s < seat_count) where
  pub held_change : (o : ℕ) → held m o + one (held_by (row l s) o) ≡ held l o + one (held_by h o)
  unfolding held holds held_by
  held_change o =
      let e = count_change (holds l o) (holds m o) s seat_count low (λ r a d. rw (c.others r d)) in
      let q : one (holds m o s) ≡ one (held_by h o) = rw c.own in
      omega arith

  -- nobody holds the row who did not
  pub within_less : ((o : ℕ) → one (held_by h o) ≤ one (held_by (row l s) o)) → WithinPlan l → WithinPlan m
  unfolding claims claim
  within_less less b =
      let fewer : (o : ℕ) → held m o ≤ held l o = (λ o. let e = held_change o in let k = less o in omega arith) in
      record {
        plan = plan-same l m c.plan b.plan;
        limits = λ o k. let a = fewer o in let q = b.limits o k in let e = limit-same l m c.plan o k in omega arith;
        claims_fit = let r = b.claims_fit in
            let k : sum_to (claim m) owners ≤ sum_to (claim l) owners =
            sum_mono (claim m) (claim l) owners (λ o k. let a = fewer o in let e = share-same l m c.plan o k in omega arith) in
            omega arith;
      }

  -- a free row given to o: o holds one more, the others hold what they held
  module _ (o : ℕ) (free : phase (row l s) ≡ 0) (used : phase h ≢ 0) (own : owner h ≡ o) where
    pub held_more : held m o ≡ held l o + 1
    held_more =
        let e = held_change o in
        let p : one (held_by (row l s) o) ≡ 0 = ap one (held-free (row l s) o free) in
        let q : one (held_by h o) ≡ 1 = ap one (held_mine h o used own) in
        omega arith

    pub held_rest : (w : ℕ) → w ≢ o → held m w ≡ held l w
    held_rest w d =
        let e = held_change w in
        let p : one (held_by (row l s) w) ≡ 0 = ap one (held-free (row l s) w free) in
        let q : one (held_by h w) ≡ 0 = ap one (held-not h w (rw own (λ z. d (sym z)))) in
        omega arith

  -- given below its limit, within its share or while there is room
  pub within_open : (o : ℕ) → o < owners → phase (row l s) ≡ 0 → phase h ≢ 0 → owner h ≡ o → held l o < limit l o →
      (share l o ≤ held l o → claims l ≢ seat_count) → WithinPlan l → WithinPlan m
  unfolding claims claim
  within_open o small free used own below fair b =
      let more = held_more o free used own in
      let rest = held_rest o free used own in
      let sh = share-same l m c.plan in
      let sums : sum_to (claim m) owners + claim l o ≡ sum_to (claim l) owners + claim m o =
      sum_change (claim l) (claim m) o owners small (λ w k d. rw (rest w d, sh w k)) in
      record {
        plan = plan-same l m c.plan b.plan;
        limits = λ w k.
            let q = b.limits w k in
            let e = limit-same l m c.plan w k in
            by (eqb w o)
            (λ z. let y = eqb-true w o z in
            let a : held m w ≡ held m o = ap (held m) y in
            let a' : held l w ≡ held l o = ap (held l) y in
            let a'' : limit l w ≡ limit l o = ap (limit l) y in omega arith)
            (λ z. let a = rest w (eqb-false w o z) in omega arith);
        claims_fit =
            let r = b.claims_fit in
            let e = sh o small in
            by (leb (share l o) (held l o))
            (λ z. let a = leb-true (share l o) (held l o) z in let f : sum_to (claim l) owners ≢ seat_count = fair a in omega arith)
            (λ z. let a = leb-false (share l o) (held l o) z in omega arith);
      }
