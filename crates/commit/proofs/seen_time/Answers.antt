-- `commit::seen_time` meets its contract. Assumes nothing.
use Rattle.std.proofs.Common.{◌∙◌, max, arith, rules, tests}
use Rattle.std.proofs.lemmas.Iterator.{YieldsList-from_range, YieldsList-from_map}
use Rattle.std.proofs.lemmas.Iterator.Consumers.{fold_from_yields_List}
use Rattle.rules.specs.Layout.{kept_write}
use Rattle.commit.proofs.Folds.{seen_is}
use Rattle.commit.proofs.seen_time.Goals as goal

pub returns : goal.returns
returns c =
    let n = c.args.n in
    let numbers = YieldsList-from_range 0 n n c.map.ensures.source (omega arith) in
    fold_from_yields_List _ max _ _ c.fold.ensures.ran
    (YieldsList-from_map _ (kept_write _) numbers c.map.ensures.closure (λ x r q k. search (rules, tests)))
    (λ a x b q k. search (rules, tests))
    ∙ seen_is _ n
