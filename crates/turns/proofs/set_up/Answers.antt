-- `turns::set_up` meets its contract. Assumes nothing.
use Rattle.std.proofs.Common.{refl, arith}
use Rattle.rules.specs.Tables.{Tables}
use Rattle.rules.specs.Plan.{setup}
use Rattle.rules.specs.Calls.{step}
use Rattle.turns.specs.Lent.{lent_in}
use Rattle.turns.specs.Laws.{setup-lent}
use Rattle.turns.proofs.Lending.{given_back_lem}
use Rattle.turns.proofs.set_up.Goals as goal

pub returns : goal.returns
unfolding step
returns c =
    let a = c.args in
    let t = a.tables.now in
    rw (setup-lent a.records a.count a.start (lent_in t) a.b.now (omega arith) (omega arith), ← c.plan_of-plan.ensures)
    (given_back_lem t a.count c.first_of-n.ensures c.first_of-m.ensures
    (λ (x : Tables). setup x a.start c.plan_of-plan.result) c.setup.ensures refl c.setup.auto.words c.setup.auto.seats)
