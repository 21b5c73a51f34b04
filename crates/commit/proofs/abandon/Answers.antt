-- `commit::abandon` meets its contract. Assumes nothing.
use Rattle.std.proofs.Common.{refl, rules, ◌∙◌, sym}
use Rattle.rules.specs.Tables.{tables}
use Rattle.rules.specs.Advance.{abandon}
use Rattle.seats.specs.Outcomes.{same}
use Rattle.seats.specs.Ready.{in_use, phase_below, ready_call, refused_by_name}
use Rattle.commit.proofs.abandon.Goals as goal

pub returns-in-Err : goal.returns-in-Err
unfolding abandon
returns-in-Err c = rw c.from.ensures (refused_by_name _ _ _ _ c.admit.ensures c.in-Err.is)

pub let_go-requires : goal.let_go-requires
let_go-requires c =
    record { in_use = in_use _ _ _ _ _ _ c.admit.ensures c.in-Ok.is; phase_in = phase_below _ _ _ _ _ _ c.admit.ensures c.in-Ok.is }

pub returns-in-Ok : goal.returns-in-Ok
unfolding abandon
returns-in-Ok c =
    same refl refl (search rules) (search rules) ∙ c.let_go.ensures.outcome (tables c.args.values.now c.args.words.now c.args.seats.now)
    ∙ sym (ready_call _ _ _ _ _ _ c.admit.ensures c.in-Ok.is _)
