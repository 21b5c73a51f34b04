-- `commit::Step::check_word` meets its contract. Assumes nothing.
use Rattle.std.proofs.Common.{◌≡◌, refl, ◌∙◌, sym, Ok}
use Rattle.clock.specs.Word.{extended}
use Rattle.clock.proofs.Laws.{extended_to_word}
use Rattle.rules.specs.Lent.{lent_locks}
use Rattle.rules.specs.Tables.{Tables}
use Rattle.rules.specs.Advance.{judged}
use Rattle.commit.proofs.Checks.{check_extends, check_fails, check_passes, extends_kept, judged_word, may_extend}
use Rattle.commit.proofs.Steps.{takes_as}
use Rattle.commit.proofs.Step.check_word.Goals.{After-extend, After-judge}
use Rattle.commit.proofs.Step.check_word.Goals as goal

-- WHERE THE VERDICT IS KNOWN, it is the rules': all three arms begin here
verdict-is : (t : Tables) (c : After-judge) → let step = c.args.self.now in
    judged (lent_locks t step.words.now step.seats.now) step.seat ≡ c.judge.result
verdict-is t c =
    let asked = c.requires in
    judged_word _ _ asked.in_use.head asked.entry_is asked.uncovered c.word-word.ensures c.is_own-own.ensures c.judge.ensures

-- THE ENTRY PASSES
pub returns-in-Passes : goal.returns-in-Passes
returns-in-Passes c =
    let asked = c.requires in
    takes_as c.pass.ensures (λ t.
    check_passes _ _ asked.in_use.head asked.entry_is.item_is (verdict-is t (goal.at.returns-in-Passes c).After-judge ∙ c.in-Passes.is))

-- THE WORD IS EXTENDED
-- the time is one that the word can take, so the clock gives a word
given : (c : After-extend) → c.extend.result ≡ Ok (extended c.word-word.result c.args.self.now.head.time)
given c =
    let may = may_extend _ c.requires (extends_kept _ _ _ _ (sym c.judge.ensures ∙ c.in-Extends.is)) in
    c.extend.ensures ∙ extended_to_word _ _ may.0 may.1

pub unwrap-longer-requires : goal.unwrap-longer-requires
unwrap-longer-requires c = rw (given (goal.at.unwrap-longer-requires c).After-extend) refl

pub returns-in-Extends : goal.returns-in-Extends
returns-in-Extends c =
    let asked = c.requires in
    let word = given (goal.at.returns-in-Extends c).After-extend in
    let longer : c.unwrap-longer.result ≡ extended c.word-word.result c.args.self.now.head.time = cc (word, c.unwrap-longer.ensures) in
    let passed = c.pass-in-Extends.ensures in
    record {
      same_tables = passed.same_tables;
      outcome = λ t.
          let verdict = verdict-is t (goal.at.returns-in-Extends c).After-judge ∙ c.in-Extends.is in
          passed.outcome t ∙ check_extends _ _ asked.in_use.head asked.entry_is.item_is verdict c.word-word.ensures longer c.store.ensures;
    }

-- THE ENTRY FAILS
pub returns-in-Fails : goal.returns-in-Fails
returns-in-Fails c =
    takes_as c.abort.ensures (λ t. check_fails _ _ (verdict-is t (goal.at.returns-in-Fails c).After-judge ∙ c.in-Fails.is))
