-- `work::Noting::place_of` meets its contract. Assumes nothing.
use Rattle.std.proofs.Common.{◌∙◌, sym, ap, Option, ℕ, unwrap_or, rules}
use Rattle.rules.specs.Work.{above}
use Rattle.seats.specs.Search.{found_or}
use Rattle.seats.proofs.Searching.{found_in_range}
use Rattle.work.proofs.Places.{place_of_lem}
use Rattle.work.proofs.Noting.place_of.Goals as goal

pub returns : goal.returns
unfolding above
returns c =
    let n = c.args.self.now.head.writes in
    let found = found_in_range (above c.row_of-row.result.now c.args.item) n _ _ _ c.find.ensures.ran (λ x b q k. search rules) in
    sym (place_of_lem c.row_of-row.ensures c.args.item c.requires.writes_is (c.unwrap_or.ensures ∙ ap (λ (r : Option ℕ). unwrap_or r n) found ∙ found_or _ n))
