-- What a host of the functions does: it starts, gives `step` what it read behind the bytes that wait, and writes the text of each step.
use Rattle.std.specs.Prelude.{ℕ, ◌≡◌, false, List, [], ◌∷◌, ◌++◌, take}
use Rattle.rules.specs.Tables as rule
use Rattle.turns.specs.declared.Tables.{Tables}
use Rattle.turns.specs.Lent.{lent_in}
use Rattle.tape.specs.Lines.{opening}
use Rattle.tape.specs.Promises.{part}
use Rattle.flow.specs.declared.Flow.{Flow}
use Rattle.flow.specs.Promises.{unready, Started, Stepped}

-- where it has come to: its flow, what its tables hold, its buffer, the parts that it read, and what it has written
pub data Host : Flow → rule.Tables → List ℕ → List (List ℕ) → List ℕ → Type 0 where
  begins : {f : Flow} {buffer : List ℕ} → Started f → Host f opening.tables buffer [] []
  reads : {f : Flow} {t : Tables} {buffer front out : List ℕ} {to : ℕ} {r : Flow} {buffer' : List ℕ} {t' : Tables} {out' : List ℕ}
      {parts : List (List ℕ)} {written : List ℕ}
      → Host f (lent_in t) buffer parts written
      → take f.waiting front ≡ take f.waiting buffer
      → unready f front to (lent_in t) out ≡ false
      → Stepped f front to t out r buffer' t' out'
      → Host r (lent_in t') buffer' (parts ++ (part front f.waiting to ∷ [])) (written ++ take r.end out')
