-- `commit::advance` meets its contract. Assumes nothing.
use Rattle.std.proofs.Common.{refl, rules, ◌∙◌, sym}
use Rattle.rules.specs.Advance.{advance}
use Rattle.seats.specs.Outcomes.{same}
use Rattle.seats.specs.Ready.{in_use, ready_call, refused_by_name}
use Rattle.commit.proofs.advance.Goals as goal

pub returns-in-Err : goal.returns-in-Err
unfolding advance
returns-in-Err c = rw c.from.ensures (refused_by_name _ _ _ _ c.admit.ensures c.in-Err.is)

pub advance_in-requires : goal.advance_in-requires
advance_in-requires c = in_use _ _ _ _ _ _ c.admit.ensures c.in-Ok.is

pub returns-in-Ok : goal.returns-in-Ok
unfolding advance
returns-in-Ok c =
    same refl refl (search rules) (search rules) ∙ c.advance_in.ensures.outcome
    ∙ sym (ready_call _ _ _ _ _ _ c.admit.ensures c.in-Ok.is _)
