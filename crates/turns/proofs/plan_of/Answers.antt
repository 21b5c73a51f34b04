-- `turns::plan_of` meets its contract. Assumes nothing.
use Rattle.std.proofs.Common.{rules, arith, ℕ, ◌-◌, ◌<◌, ◌≡◌, ap, sym, ◌∙◌, get_or, length, take, drop}
use Rattle.std.proofs.lemmas.Grind.{same_number_lists}
use Rattle.std.proofs.lemmas.Result.{MatchResult-at_ok}
use Rattle.std.proofs.lemmas.List.{length-drop, length-take-le}
use Rattle.rules.specs.Layout.{plan_width}
use Rattle.frames.specs.Decode.{plan_from}
use Rattle.turns.proofs.plan_of.Goals as goal
use Rattle.turns.proofs.plan_of.Goals.{After-map}

-- a number is its byte
each : (c : After-map) (i : ℕ) → i < plan_width → get_or c.map.result i 0 ≡ get_or c.unwrap-bytes.result i 0
each c i h = let called = (c.map.ensures.items.at i 0 0 h).2 in search rules

bytes_are : (c : After-map) → c.unwrap-bytes.result ≡ take plan_width (drop plan_from c.args.b.now)
bytes_are c =
    let b = c.args.b.now in
    let n : length b - plan_from ≡ plan_width = omega arith in
    (MatchResult-at_ok _ _ _ c.unwrap-bytes.ensures c.try_into.ensures.1).same ∙ ap (λ (k : ℕ). take k (drop plan_from b)) n

pub returns : goal.returns
returns c =
    let k = (goal.at.returns c).After-map in
    let rest = drop plan_from c.args.b.now in
    let long : length c.unwrap-bytes.result ≡ plan_width =
    ap length (bytes_are k) ∙ length-take-le plan_width rest (omega (arith, length-drop plan_from c.args.b.now))
    in
    same_number_lists c.map.result c.unwrap-bytes.result (c.map.ensures.items.long ∙ sym long) (λ i h. each k i (omega (arith, c.map.ensures.items.long)))
    ∙ bytes_are k
