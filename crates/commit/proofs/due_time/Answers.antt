-- `commit::due_time` meets its contract. Assumes nothing.
use Rattle.std.proofs.Common.{◌∙◌, max, arith, rules, tests}
use Rattle.std.proofs.lemmas.Iterator.{YieldsList-from_range, YieldsList-from_map, serves_from_Range}
use Rattle.std.proofs.lemmas.Iterator.Consumers.{fold_from_yields_List}
use Rattle.clock.proofs.Laws.{read_time-fits}
use Rattle.commit.proofs.Folds.{due_by, due_is}
use Rattle.commit.proofs.due_time.Goals as goal

-- a read time is far from the end of 64 bits
pub fold-requires-clause-can : goal.fold-requires-clause-can
fold-requires-clause-can c = (tt, serves_from_Range (λ x q k. search (rules, tests)) (λ x low high. search (rules, read_time-fits)))

pub returns : goal.returns
returns c =
    let n = c.args.n in
    let due = due_by c.args.words.now c.args.row.now in
    let numbers = YieldsList-from_range 0 n n c.map.ensures.source (omega arith) in
    fold_from_yields_List _ max _ _ c.fold.ensures.ran
    (YieldsList-from_map _ due numbers c.map.ensures.closure (λ x r q k. search (rules, tests)))
    (λ a x b q k. search (rules, tests))
    ∙ due_is _ _ _ n
