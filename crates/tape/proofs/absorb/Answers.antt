-- `tape::absorb` meets its contract. Assumes nothing.
use Rattle.std.proofs.Common.{List, ℕ, ◌-◌, ◌≤◌, arith, rules, le_refl, ◌≡◌, sym, ◌∙◌, false, true≢false, length, drop, length-drop, length-take-le}
use Rattle.turns.specs.Lent.{lent_in}
use Rattle.tape.specs.Inner.{state_of}
use Rattle.tape.specs.Lines.{State, Fed, fed}
use Rattle.tape.specs.Runs.{grown, left_is_end}
use Rattle.tape.specs.Promises.{part, unfit_for}
use Rattle.tape.specs.Room.{Fit, fit, text_room}
use Rattle.tape.proofs.Shifted.{left_fits, took, waits_few}
use Rattle.tape.proofs.absorb.Goals as goal
use Rattle.tape.proofs.absorb.Goals.{After-feed-r, Else-is_unfit}

not-unfit : (c : Else-is_unfit) → let a = c.args in unfit_for a.buf.now a.from a.to a.k (lent_in a.tables.now) a.out.now ≡ false
not-unfit c = sym c.is_unfit.ensures ∙ c.if-is_unfit.false

fitting : (c : Else-is_unfit) → let a = c.args in
    Fit (length a.buf.now) a.from a.to a.k (length a.tables.now.values.now) (length a.tables.now.words.now) (length a.out.now)
fitting c = fit (not-unfit c)

part_length : (c : Else-is_unfit) → let a = c.args in length (part a.buf.now a.from a.to) ≡ a.to - a.from
part_length c =
    let a = c.args in
    let g = fitting c in
    length-take-le (a.to - a.from) (drop a.from a.buf.now) (omega (arith, g.inside, length-drop a.from a.buf.now))

pub slice_bounds-feed-count : goal.slice_bounds-feed-count
slice_bounds-feed-count c = (fitting (goal.at.slice_bounds-feed-count c).Else-is_unfit).behind

pub slice_bounds-feed-start : goal.slice_bounds-feed-start
slice_bounds-feed-start c = omega (arith, (fitting (goal.at.slice_bounds-feed-start c).Else-is_unfit).behind)

pub slice_bounds-feed-end : goal.slice_bounds-feed-end
slice_bounds-feed-end c = omega (arith, (fitting (goal.at.slice_bounds-feed-end c).Else-is_unfit).inside)

pub feed-r-requires : goal.feed-r-requires
feed-r-requires c =
    let fine = (goal.at.feed-r-requires c).Else-is_unfit in
    let g = fitting fine in
    let n = part_length fine in
    record { offset = omega (arith, g.offset, g.roomy, c.well_formed); calls = omega (arith, g.calls, g.roomy, c.well_formed) }

-- what the run is of, and what waits is the end of it
abbrev state_at : After-feed-r → State
state_at c = let a = c.args in state_of a.k (lent_in a.tables.now)

abbrev part_at : After-feed-r → List ℕ
part_at c = let a = c.args in part a.buf.now a.from a.to

abbrev fed_at : After-feed-r → Fed
fed_at c = fed (length (part_at c)) (state_at c) (part_at c)

ends : (c : After-feed-r) → let f = fed_at c in f.left ≡ drop (length (part_at c) - length f.left) (part_at c)
ends c = left_is_end (length (part_at c)) (state_at c) (part_at c) (le_refl _)

waits_within : (c : After-feed-r) → let a = c.args in
    Fit (length a.buf.now) a.from a.to a.k (length a.tables.now.values.now) (length a.tables.now.words.now) (length a.out.now)
    → c.feed-r.result.waiting ≤ a.to - a.from
waits_within c g =
    let a = c.args in
    left_fits a.buf.now a.tables.now a.out.now a.from a.to (fed_at c) c.feed-r.result _ _ c.feed-r.ensures (ends c) g.behind g.inside

pub overflow_sub-to : goal.overflow_sub-to
overflow_sub-to c =
    let at_feed = (goal.at.overflow_sub-to c).After-feed-r in
    omega (arith, waits_within at_feed (fitting (goal.at.overflow_sub-to c).Else-is_unfit))

pub copy_within-requires-clause-in_bounds : goal.copy_within-requires-clause-in_bounds
copy_within-requires-clause-in_bounds c = (fitting (goal.at.copy_within-requires-clause-in_bounds c).Else-is_unfit).inside

pub copy_within-requires-clause-dest_in_bounds : goal.copy_within-requires-clause-dest_in_bounds
copy_within-requires-clause-dest_in_bounds c = omega (arith, (fitting (goal.at.copy_within-requires-clause-dest_in_bounds c).Else-is_unfit).inside)

pub returns : goal.returns
returns c =
    let k = (goal.at.returns c).After-feed-r in
    let fine = (goal.at.returns c).Else-is_unfit in
    let a = c.args in
    let g = fitting fine in
    let n = le_refl (length (part_at k)) in
    record {
      done = λ _.
          took a.buf.now a.tables.now a.out.now a.from a.to (fed_at k) c.feed-r.result _ _ c.feed-r.ensures (ends k) g.behind g.inside _
          c.copy_within.ensures.after
          (omega (arith, text_room _ (state_at k) (part_at k) n, part_length fine, g.roomy)) (omega (arith, c.well_formed));
      refused = λ e. absurd (true≢false (sym e ∙ not-unfit fine));
      lengths = c.feed-r.ensures.lengths;
      short =
          waits_few a.buf.now a.tables.now a.out.now a.from a.to (fed_at k) c.feed-r.result _ _ c.feed-r.ensures (ends k) g.behind g.inside (λ i. search rules)
          (grown _ (state_at k) (part_at k) n).wanting;
    }
