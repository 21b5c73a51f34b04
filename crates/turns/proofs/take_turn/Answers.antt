-- `turns::take_turn` meets its contract. Assumes nothing.
use Rattle.std.proofs.Common.{◌+◌, ◌≤◌, ◌≡◌, arith, sym, ◌∙◌, length}
use Rattle.std.proofs.Math.Nat.{add-sub_cancel_left}
use Rattle.frames.specs.declared.Frame.TheVariants.{Body}
use Rattle.frames.specs.Decode.{length_size, frame_of}
use Rattle.turns.specs.Turns.{turn_of, frame_turn}
use Rattle.turns.proofs.Turning.{body_inside, waits_for}
use Rattle.turns.proofs.take_turn.Goals as goal
use Rattle.turns.proofs.take_turn.Goals.{In-Body}

-- WHERE THERE IS A BODY: it lies within the rest
frame_is : (c : In-Body) → frame_of c.args.rest.now ≡ Body c.in-Body.k
frame_is c = sym c.split.ensures ∙ c.in-Body.is

body_within : (c : In-Body) → length_size + c.in-Body.k ≤ length c.args.rest.now
body_within c = body_inside _ _ (frame_is c)

pub overflow_add-k : goal.overflow_add-k
overflow_add-k c = omega (arith, body_within (goal.at.overflow_add-k c).In-Body, c.well_formed)

pub slice_bounds-body_turn-end : goal.slice_bounds-body_turn-end
slice_bounds-body_turn-end c = omega (arith, body_within (goal.at.slice_bounds-body_turn-end c).In-Body)

pub returns : goal.returns
unfolding turn_of frame_turn
returns c =
    rw (frame_is (goal.at.returns c).In-Body) (rw (add-sub_cancel_left length_size c.in-Body.k) at c.body_turn.ensures)

-- WHERE THERE IS NONE
pub returns-in_default : goal.returns-in_default
unfolding turn_of
returns-in_default c = rw (sym c.split.ensures) (waits_for _ _ _ _ c.split.result c.in_default.not-Body)
