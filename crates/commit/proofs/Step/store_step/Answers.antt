-- `commit::Step::store_step` meets its contract. Assumes nothing.
use Rattle.std.proofs.Common.{◌≡◌, ◌∙◌, refl, arith, Ok}
use Rattle.clock.specs.Word.{fresh}
use Rattle.clock.proofs.Laws.{fresh_at_word}
use Rattle.rules.specs.Advance.{effect, store_step}
use Rattle.rows.specs.Fine.{time-top}
use Rattle.seats.specs.Outcomes.{same}
use Rattle.commit.proofs.Step.store_step.Goals.{After-fresh}
use Rattle.commit.proofs.Step.store_step.Goals as goal

-- the time of a row that stores is not above T, so the clock gives a word
given : (c : After-fresh) → c.fresh.result ≡ Ok (fresh c.args.self.now.head.time)
given c =
    let used = c.requires.in_use in
    c.fresh.ensures
    ∙ fresh_at_word _ (omega (arith, c.requires.phase_is, used.head.phase_is, used.head.time_is, time-top _ _ used.sound (omega arith)))

pub unwrap-word-requires : goal.unwrap-word-requires
unwrap-word-requires c = rw (given (goal.at.unwrap-word-requires c).After-fresh) refl

pub returns : goal.returns
unfolding store_step effect
returns c =
    let head = c.requires.in_use.head in
    let entry = c.write_entry-entry.ensures in
    let given_word = given (goal.at.returns c).After-fresh in
    let word : c.unwrap-word.result ≡ fresh c.args.self.now.head.time = cc (given_word, c.unwrap-word.ensures) in
    record {
      same_tables = (refl, refl);
      outcome =
          simp (← head.position_is, ← head.time_is, ← entry.item_is, ← entry.value_is, ← word)
          (same refl c.store.ensures c.store-2.ensures c.give.ensures);
    }
