-- `flow::finish` meets its contract. Assumes nothing.
use Rattle.std.proofs.Common.{refl}
use Rattle.flow.proofs.Fronts.{ends_stopped, ends-begun, ends_unbegun}
use Rattle.flow.proofs.finish.Goals as goal

pub returns-then-f : goal.returns-then-f
returns-then-f c = ends_stopped _ _ c.if-f.true

pub returns-then-f-2 : goal.returns-then-f-2
returns-then-f-2 c =
    ends-begun _ _ c.if-f.false c.if-f-2.true c.finish.ensures refl

pub returns : goal.returns
returns c =
    ends_unbegun _ _ c.if-f.false c.if-f-2.false c.stop.ensures
