-- What a step comes to, where two rules come to the same.
use Rattle.std.proofs.Common.{ℕ, ◌≡◌, ◌∙◌}
use Rattle.rules.specs.Lent.{Lent, lent, lent_locks}
use Rattle.rules.specs.Tables.{Tables, Outcome, tables}
use Rattle.rules.specs.declared.Answer.{Answer}
use Rattle.commit.specs.declared.Step.{Step}
use Rattle.commit.specs.Steps.{Takes, TakesAll}

module _ {rule rule' : Tables → ℕ → Outcome} {s : Step} {r : Answer} {s' : Step} where
  pub takes_as : Takes rule s r s' →
      ((t : Tables) → rule (lent_locks t s.words.now s.seats.now) s.seat ≡ rule' (lent_locks t s.words.now s.seats.now) s.seat) → Takes rule' s r s'
  takes_as q e = record { same_tables = q.same_tables; outcome = λ t. q.outcome t ∙ e t }

  -- a step that does not see the values leaves them
  pub takes_all : (values : Lent) → Takes rule s r s' →
      rule (lent values s.words.now s.seats.now) s.seat ≡ rule' (lent values s.words.now s.seats.now) s.seat → TakesAll rule' values s r values s'
  takes_all values q e = record { same_tables = q.same_tables; outcome = q.outcome (tables values s.words.now s.seats.now) ∙ e }
