-- `turns::say` meets its contract. Assumes nothing.
use Rattle.std.proofs.Common.{arith, ◌∙◌}
use Rattle.std.proofs.lemmas.List.{take_all}
use Rattle.text.specs.Text.{most_letters}
use Rattle.answers.specs.Spelling.{spells_as}
use Rattle.turns.proofs.say.Goals as goal

pub returns : goal.returns
returns c =
    let is = spells_as c.args.a c.spell.ensures in
    rw (take_all most_letters c.spell.result.now (omega (arith, is.short)) ∙ is.letters, c.number_of.ensures) at c.numbered.ensures
