-- `plan::Census::take` meets its contract. Assumes nothing.
use Rattle.std.proofs.Common.{◌≡◌, refl, ◌∙◌, sym, arith}
use Rattle.rules.specs.Layout.{phase_at, owner_at}
use Rattle.rules.specs.Places.{cell_at}
use Rattle.rules.specs.Plan.{bad_row}
use Rattle.rows.specs.Search.{passed_none, passed_more, some_passes}
use Rattle.plan.specs.Census.{RowOf}
use Rattle.plan.proofs.Counted.{census_sound, counts_none, held_small}
use Rattle.plan.proofs.Census.take.Goals as goal
use Rattle.plan.proofs.Census.take.Goals.{After-at-owner, After-is_bad_row}

-- the two numbers are those of the seat that the loop is at
row_is : (c : After-at-owner) →
    RowOf c.args.seats.now c.loop-i.i c.at-phase.result c.at-owner.result
row_is c =
    let seats = c.args.seats.now in
    record {
      phase_is = c.at-phase.ensures ∙ sym (cell_at seats c.loop-i.i phase_at (omega arith));
      owner_is = c.at-owner.ensures ∙ sym (cell_at seats c.loop-i.i owner_at (omega arith));
    }

-- and the test is the rules'
test_is : (c : After-is_bad_row) → RowOf c.args.seats.now c.loop-i.i c.at-phase.result c.at-owner.result →
    bad_row c.args.seats.now c.loop-i.i ≡ c.is_bad_row.result
test_is c row = sym (c.is_bad_row.ensures _ _ row)

pub returns-then-is_bad_row : goal.returns-then-is_bad_row
returns-then-is_bad_row c =
    let row = row_is (goal.at.returns-then-is_bad_row c).After-at-owner in
    let test = test_is (goal.at.returns-then-is_bad_row c).After-is_bad_row row in
    record { ok = tt; err = (refl, some_passes _ _ _ c.loop-i.invariant.0 c.loop-i-test.true (test ∙ c.if-is_bad_row.true)) }

pub loop-i-init : goal.loop-i-init
loop-i-init c = (passed_none _ _, counts_none _, passed_none _ _)

pub count-requires : goal.count-requires
count-requires c =
    omega (arith, held_small _ _ c.loop-i.invariant.1 c.at-owner.result)

pub loop-i-preserved : goal.loop-i-preserved
loop-i-preserved c =
    let so_far = c.loop-i.invariant in
    let row = row_is (goal.at.loop-i-preserved c).After-at-owner in (
      passed_more _ _ _ so_far.0 c.loop-i-test.true (test_is (goal.at.loop-i-preserved c).After-is_bad_row row ∙ c.if-is_bad_row.false),
      c.count.ensures _ _ row so_far.1,
      c.lowest-free.ensures _ row.phase_is so_far.2,
    )

pub invariant_of-result : goal.invariant_of-result
invariant_of-result c =
    let all = c.loop-i.invariant in
    record { sound = census_sound _ _ _ _ all.0 all.1 all.2 (omega arith) }
