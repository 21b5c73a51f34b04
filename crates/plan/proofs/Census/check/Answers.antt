-- `plan::Census::check` meets its contract. Assumes nothing.
use Rattle.std.proofs.Common.{◌≡◌, ◌∙◌, sym, List, [], ◌∷◌, ℕ, false, ltb, le-ltb, lt-ltb}
use Rattle.rules.specs.Tests.{any, one_of}
use Rattle.rules.specs.Layout.{owners, seat_count}
use Rattle.rules.specs.Plan.{bad_plan, bad_row, over_limit, claims, unsound, plan_refusal}
use Rattle.plan.proofs.Counted.{held_is}
use Rattle.plan.proofs.Census.check.Goals as goal
use Rattle.plan.proofs.Census.check.Goals.{After-claims-claims, then-is_bad_plan-via-then-is_bad_plan, then-is_bad_plan-via-else-is_bad_plan+then-some_over}

-- A GOOD PLAN, and no bad row: the limits and U are left
by_limits : (seats : List ℕ) → bad_plan seats ≡ false → any (bad_row seats) seat_count ≡ false →
    unsound seats ≡ one_of (any (over_limit seats) owners ∷ ltb seat_count (claims seats) ∷ [])
unfolding unsound one_of
by_limits seats good rows = simp (good, rows)

pub returns-then-is_bad_plan : goal.returns-then-is_bad_plan
unfolding plan_refusal unsound one_of
returns-then-is_bad_plan c =
    elim c.then-is_bad_plan.branch [
      | then-is_bad_plan-via-then-is_bad_plan w ↦ simp (← c.is_bad_plan.ensures, w.if-is_bad_plan.true)
      | then-is_bad_plan-via-else-is_bad_plan+then-some_over w ↦
          simp (← c.is_bad_plan.ensures, w.if-is_bad_plan.false, c.args.self.now.sound.rows_good, ← w.some_over.ensures, w.if-some_over.true)
    ]

-- NO OWNER OVER ITS LIMIT: U is left
by-claims : (c : After-claims-claims) → unsound c.args.self.now.seats.now ≡ ltb seat_count c.claims-claims.result
unfolding one_of
by-claims c =
    by_limits _ (sym c.is_bad_plan.ensures ∙ c.if-is_bad_plan.false) c.args.self.now.sound.rows_good
    ∙ simp (← c.some_over.ensures, c.if-some_over.false, ← c.claims-claims.ensures)

pub returns-then-claims-gt-SEATS : goal.returns-then-claims-gt-SEATS
unfolding plan_refusal
returns-then-claims-gt-SEATS c = simp (by-claims (goal.at.returns-then-claims-gt-SEATS c).After-claims-claims, lt-ltb _ _ c.if-claims-gt-SEATS.true)

-- THE PLAN IS SOUND: the owner's own numbers decide
pub returns : goal.returns
unfolding plan_refusal
returns c =
    simp (by-claims (goal.at.returns c).After-claims-claims, le-ltb _ _ c.if-claims-gt-SEATS.false)
    (c.check_owner.ensures _ _
    (record {
      share_is = c.at-share.ensures;
      limit_is = c.at-limit.ensures;
      held_is = c.at.ensures ∙ held_is _ c.args.self.now.sound.counts_are _ c.requires;
      claims_is = c.claims-claims.ensures;
    }))
