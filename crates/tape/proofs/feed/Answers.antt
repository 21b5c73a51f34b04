-- `tape::feed` meets its contract: whenever the loop's test is reached, the rest of the part leads to what the whole leads to. Assumes nothing.
use Rattle.std.proofs.Common.{arith, ℕ, ◌≡◌, refl, sym, eqb-true, ◌<◌, length, length-drop, ◌∙◌}
use Rattle.turns.specs.declared.Turn.TheVariants.{Said}
use Rattle.text.specs.Text.{greatest}
use Rattle.tape.proofs.Running.{saturated, taken_as, Onward, said, next_turn, ran_all, ran_waits, ran_stops}
use Rattle.tape.proofs.feed.Goals as goal
use Rattle.tape.proofs.feed.Goals.{After-take_turn}

short : (k : After-take_turn) → length k.args.out.now < greatest
short k = omega (arith, k.well_formed)

-- no byte is left
pub returns-then-is_empty : goal.returns-then-is_empty
returns-then-is_empty c =
    ran_all _ _ _ _ _ _ _ _ _ _ _ (omega (arith, c.well_formed)) c.loop-n.invariant (eqb-true _ _ (sym c.if-is_empty.ensures)) refl refl

-- more bytes are wanted
pub returns-in-Wait : goal.returns-in-Wait
returns-in-Wait c =
    let k = (goal.at.returns-in-Wait c).After-take_turn in
    ran_waits _ _ _ _ _ _ _ _ _ _ _ (short k) c.loop-n.invariant (taken_as c.in-Wait.is k.take_turn.ensures)

-- the tape is stopped
pub returns-in-Stop : goal.returns-in-Stop
returns-in-Stop c =
    let k = (goal.at.returns-in-Stop c).After-take_turn in
    ran_stops _ _ _ _ _ _ _ _ _ _ _ (short k) c.loop-n.invariant c.in-Stop.len c.saturating_add-end.result
    (taken_as c.in-Stop.is k.take_turn.ensures) (c.saturating_add-end.ensures ∙ saturated _ _)

-- a line was said
onward : (k : After-take_turn) (used len lent : ℕ) → k.take_turn.result ≡ Said used len lent →
    let L = k.loop-n in
    let a = k.args in
    Onward a.part.now a.k a.tables.now a.out.now L.k L.rest.now L.end k.take_turn.new.tables k.take_turn.new.out used len lent
onward k used len lent e =
    said _ _ _ _ _ _ _ _ _ _ _ (short k) k.loop-n.invariant used len lent (taken_as e k.take_turn.ensures)

pub slice_bounds-rest-count : goal.slice_bounds-rest-count
slice_bounds-rest-count c =
    let k = (goal.at.slice_bounds-rest-count c).After-take_turn in
    (onward k _ _ _ c.in-Said.is).within

pub slice_bounds-rest-start : goal.slice_bounds-rest-start
slice_bounds-rest-start c =
    let k = (goal.at.slice_bounds-rest-start c).After-take_turn in
    (onward k _ _ _ c.in-Said.is).within

pub after-k-requires-clause-calls : goal.after-k-requires-clause-calls
after-k-requires-clause-calls c =
    let k = (goal.at.after-k-requires-clause-calls c).After-take_turn in
    let s = onward k _ _ _ c.in-Said.is in
    omega (arith, s.within, s.least, c.loop-n.invariant.calls, c.requires.calls)

pub after-k-requires-clause-offset : goal.after-k-requires-clause-offset
after-k-requires-clause-offset c =
    let k = (goal.at.after-k-requires-clause-offset c).After-take_turn in
    omega (arith, (onward k _ _ _ c.in-Said.is).within, c.loop-n.invariant.offset, c.requires.offset)

pub loop-n-smaller : goal.loop-n-smaller
loop-n-smaller c =
    let k = (goal.at.loop-n-smaller c).After-take_turn in
    let s = onward k _ _ _ c.in-Said.is in
    omega (arith, s.within, s.least, length-drop c.in-Said.taken c.loop-n.rest.now)

pub loop-n-preserved : goal.loop-n-preserved
loop-n-preserved c =
    let k = (goal.at.loop-n-preserved c).After-take_turn in
    rw c.after-k.ensures (next_turn _ _ (onward k _ _ _ c.in-Said.is) (omega arith) c.saturating_add-end-in-Said.ensures)
