-- What a host is given of a call's outcome: the number of the answer's word, the number that it carries, and the tables.
use Rattle.std.specs.Prelude.{ℕ, ◌≡◌}
use Rattle.std.proofs.Common.{sym, ap, ◌∙◌}
use Rattle.rules.specs.Tables.{Tables, Outcome, answered}
use Rattle.rules.specs.Answers.{kind, number}
use Rattle.rules.specs.declared.Answer.{Answer}

pub record Given (o : Outcome) (told carried : ℕ) (t' : Tables) : Type 0 where
  pub kind_is : told ≡ kind o.answer
  pub number_is : carried ≡ number o.answer
  pub tables_are : t' ≡ o.tables

-- an answer, as it is told
pub record Told (a : Answer) (told carried : ℕ) : Type 0 where
  pub kind_is : told ≡ kind a
  pub number_is : carried ≡ number a

-- from what a call ensures
pub given_of : {o : Outcome} {a : Answer} {told carried : ℕ} {t' : Tables} → answered a t' ≡ o → Told a told carried → Given o told carried t'
given_of e r =
    record {
      kind_is = r.kind_is ∙ ap (λ (x : Outcome). kind x.answer) e;
      number_is = r.number_is ∙ ap (λ (x : Outcome). number x.answer) e;
      tables_are = ap (λ (x : Outcome). x.tables) e;
    }

-- the statement leaves one word, one number and one content of the tables
pub Given-one : (o : Outcome) (r q m n : ℕ) (t₁ t₂ : Tables) → Given o r m t₁ → Given o q n t₂ → (r ≡ q) × (m ≡ n) × (t₁ ≡ t₂)
Given-one o r q m n t₁ t₂ e f = (e.kind_is ∙ sym f.kind_is, e.number_is ∙ sym f.number_is, e.tables_are ∙ sym f.tables_are)
