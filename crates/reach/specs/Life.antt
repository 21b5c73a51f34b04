-- Statements. A transaction's life, from calls and answers alone: the step that each Advance is, the one that is Done, and what Sealed means.
use Rattle.std.specs.Prelude.{ℕ, ◌+◌, ◌*◌, ◌<◌, ◌≤◌, ◌≡◌, ◌≢◌, ◌↔◌, true, List, [], ◌∷◌, ◌++◌, length, get_or, take, replicate}
use Rattle.rules.specs.Layout.{seat_count}
use Rattle.rules.specs.Tables.{Tables}
use Rattle.rules.specs.Answers.{ready, locked, timed, checked, sealed, stored, done, refused, aborted, kind}
use Rattle.rules.specs.Calls.{Read, Write, Advance, Abandon, step}
use Rattle.rules.specs.declared.Answer.{Answer}
use Rattle.rules.specs.declared.Answer.TheVariants.{Refused}
use Rattle.observer.specs.Observer.{Seen}
use Rattle.reach.specs.Reached.{Reached, seen}
use Rattle.reach.specs.Counts.{advance_count, write_count, read_count}

-- the answers to the Advances of a transaction with so many writes and reads, in order
unfoldable pub script : ℕ → ℕ → List ℕ
script writes reads =
    replicate writes locked ++ (timed ∷ (replicate reads checked ++ (sealed ∷ (replicate writes stored ++ (done ∷ [])))))

-- the answer to owner o's next Advance of seat s
abbrev pub advanced : Tables → ℕ → ℕ → Answer
advanced t o s = (step t (Advance o s)).answer

-- SEAT s, at any time; x is what has been seen of it
pub record Life (t : Tables) (s : ℕ) (x : Seen) : Type 0 where
  -- its Advances so far were answered with the script's first words
  pub so_far : x.advances ≡ take (advance_count x) (script (write_count x) (read_count x))
  -- an Advance that is neither refused nor aborted is the next step of the script
  pub in_order : (o : ℕ) → kind (advanced t o s) ≢ refused → kind (advanced t o s) ≢ aborted →
      kind (advanced t o s) ≡ get_or (script (write_count x) (read_count x)) (advance_count x) ready
  -- DONE AT EXACTLY ADVANCE NUMBER 2w + r + 3, of w records written and r first read, refused ones not counted, whatever other calls stand in between
  pub done_exactly : (o : ℕ) → kind (advanced t o s) ≢ refused → (kind (advanced t o s) ≡ done) ↔ (advance_count x + 1 ≡ 2 * write_count x + read_count x + 3)
  -- there is no Advance past that one
  pub never_past : advance_count x < length (script (write_count x) (read_count x))
  -- from the first Advance on, Reads and Writes are refused: what it writes and has read stays
  pub settled : 1 ≤ advance_count x → (o item value : ℕ) →
      (kind (step t (Read o s item)).answer ≡ refused) × (kind (step t (Write o s item value)).answer ≡ refused)
  -- ONCE SEALED, NEVER ABORTED; and Abandon is refused, its owner's with 5
  pub never_aborted : x.is_sealed ≡ true → (o : ℕ) → kind (advanced t o s) ≢ aborted
  pub not_abandoned : x.is_sealed ≡ true → (o : ℕ) → kind (step t (Abandon o s)).answer ≡ refused
  pub abandon_five : x.is_sealed ≡ true → (step t (Abandon x.holder s)).answer ≡ Refused 5

abbrev pub LifeOfEach : Tables → Type 0
LifeOfEach t = (z : Reached t) (s : ℕ) → s < seat_count → Life t s ((seen z).seats s)

-- so long is a script
abbrev pub ScriptLength : Type 0
ScriptLength = (writes reads : ℕ) → length (script writes reads) ≡ 2 * writes + reads + 3
