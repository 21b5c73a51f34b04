-- `plan::Census::claims` meets its contract. Assumes nothing.
use Rattle.std.proofs.Common.{ℕ, max, ◌∙◌, get_or, arith, rules, tests}
use Rattle.std.proofs.lemmas.Iterator.{YieldsList-from_range, YieldsList-from_map}
use Rattle.std.proofs.lemmas.Iterator.Consumers.{fits_from_yields_list, sum_from_yields_List}
use Rattle.rules.specs.Layout.{owners, share}
use Rattle.plan.proofs.Counted.{claims_are, claims_small, planned}
use Rattle.plan.proofs.Census.claims.Goals as goal

pub sum-requires-clause-fits : goal.sum-requires-clause-fits
sum-requires-clause-fits c =
    let taken = λ (o : ℕ). max (get_or c.args.self.now.held o 0) (share c.args.self.now.seats.now o) in
    let numbers = YieldsList-from_range 0 owners owners c.map.ensures.source (omega arith) in
    fits_from_yields_list c.map.result _
    (YieldsList-from_map _ taken numbers c.map.ensures.closure (λ x r q k. (search rules, search (rules, tests))))
    (omega (arith, claims_are (planned c.args.self.now.sound c.requires), claims_small (planned c.args.self.now.sound c.requires)))

pub returns : goal.returns
returns c =
    let taken = λ (o : ℕ). max (get_or c.args.self.now.held o 0) (share c.args.self.now.seats.now o) in
    let numbers = YieldsList-from_range 0 owners owners c.map.ensures.source (omega arith) in
    sum_from_yields_List c.map.result _ c.sum.ensures.ran
    (YieldsList-from_map _ taken numbers c.map.ensures.closure (λ x r q k. (search rules, search (rules, tests))))
    ∙ claims_are (planned c.args.self.now.sound c.requires)
