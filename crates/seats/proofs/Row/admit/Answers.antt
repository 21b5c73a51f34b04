-- `seats::Row::admit` meets its contract. Assumes nothing.
use Rattle.std.specs.Prelude.{Ok, ℕ, ◌≡◌, List, [], ◌∷◌, ltb, Bool, false}
use Rattle.std.proofs.Common.{◌∙◌, ap, arith, eq-eqb, le-ltb, ne_eqb}
use Rattle.rules.specs.Layout.{phase}
use Rattle.rules.specs.Tests.{one_of, first_of}
use Rattle.rules.specs.Refusals.{damaged, foreign, row_refusal}
use Rattle.seats.specs.Heads.{head_is, admission}
use Rattle.seats.proofs.Row.admit.Goals as goal
use Rattle.seats.proofs.Row.admit.Goals.{Else-head-owner}

pub returns-then-is_damaged : goal.returns-then-is_damaged
unfolding row_refusal first_of admission
returns-then-is_damaged c = simp (← c.is_damaged.ensures, c.if-is_damaged.true)

-- A ROW IN ORDER: 4 and 5 are left
in_order : (g : List ℕ) (records owner last : ℕ) {bad : Bool} → bad ≡ damaged g records → bad ≡ false →
    row_refusal g records owner last ≡ first_of 4 (foreign g owner ∷ ltb last (phase g) ∷ [])
unfolding row_refusal first_of
in_order g records owner last is fine = simp (← is, fine)

pub returns-then-head-eq-FREE : goal.returns-then-head-eq-FREE
unfolding foreign one_of first_of admission
returns-then-head-eq-FREE c =
    let q = head_is c.args.self.now.head_is in
    let left = in_order c.args.self.now.numbers.now c.args.records c.args.owner c.args.last c.is_damaged.ensures c.if-is_damaged.false in
    simp (left, ← q.phase_is, eq-eqb _ _ c.if-head-eq-FREE.true)

pub returns-then-head-owner : goal.returns-then-head-owner
unfolding foreign one_of first_of admission
returns-then-head-owner c =
    let q = head_is c.args.self.now.head_is in
    let left = in_order c.args.self.now.numbers.now c.args.records c.args.owner c.args.last c.is_damaged.ensures c.if-is_damaged.false in
    simp (left, ← q.phase_is, ← q.owner_is, ne_eqb _ _ c.if-head-eq-FREE.false, ne_eqb _ _ c.if-head-owner.true)

-- THE OWNER'S OWN ROW: 5 is left
own : (c : Else-head-owner) → row_refusal c.args.self.now.numbers.now c.args.records c.args.owner c.args.last
    ≡ first_of 5 (ltb c.args.last (phase c.args.self.now.numbers.now) ∷ [])
unfolding foreign one_of first_of
own c =
    let q = head_is c.args.self.now.head_is in
    in_order c.args.self.now.numbers.now c.args.records c.args.owner c.args.last c.is_damaged.ensures c.if-is_damaged.false
    ∙ simp (← q.phase_is, ← q.owner_is, ne_eqb _ _ c.if-head-eq-FREE.false, eq-eqb _ _ c.if-head-owner.false)

pub returns : goal.returns
unfolding first_of admission
returns c =
    let e = c.args.self.now.head_is in
    simp (own (goal.at.returns c).Else-head-owner, ← (head_is e).phase_is, le-ltb c.args.last c.args.self.now.head.phase (omega arith)) (ap Ok e)
