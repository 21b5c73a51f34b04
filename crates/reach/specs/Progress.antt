-- Statements. PROGRESS: nobody who holds a seat is kept waiting by a refusal, and what is Sealed is stored and ends.
-- From Setup on, told from calls and answers alone.
use Rattle.std.specs.Prelude.{ℕ, ◌<◌, ◌≡◌, ◌≢◌, ◌⊎◌, true, false, cond, List, [], ◌∷◌, ◌++◌, length, take, replicate}
use Rattle.rules.specs.Layout.{seat_count}
use Rattle.rules.specs.Tables.{Tables}
use Rattle.rules.specs.Answers.{sealed, stored, done, refused, kind}
use Rattle.rules.specs.Calls.{Call, Advance, Abandon, step, Event, history}
use Rattle.rules.specs.declared.Answer.TheVariants.{Dropped}
use Rattle.observer.specs.Observer.{Seen, is_advance, NoSetup}
use Rattle.reach.specs.Reached.{Reached, seen}
use Rattle.reach.specs.Counts.{write_count}
use Rattle.reach.specs.Life.{advanced}

-- SEAT s, at any time; x is what has been seen of it
pub record Progress (t : Tables) (s : ℕ) (x : Seen) : Type 0 where
  -- an Advance of a given seat by its holder is never refused
  pub never_refused : x.is_open ≡ true → kind (advanced t x.holder s) ≢ refused
  -- once Sealed, it is answered Stored or Done
  pub goes_on : x.is_sealed ≡ true → (kind (advanced t x.holder s) ≡ stored) ⊎ (kind (advanced t x.holder s) ≡ done)
  -- Abandon by the holder is never refused before Sealed
  pub may_leave : x.is_open ≡ true → x.is_sealed ≡ false → (step t (Abandon x.holder s)).answer ≡ Dropped s

abbrev pub ProgressOfEach : Tables → Type 0
ProgressOfEach t = (z : Reached t) (s : ℕ) → s < seat_count → Progress t s ((seen z).seats s)

-- the words that owner o's Advances of seat s were answered with, in order
unfoldable pub advances_of : ℕ → ℕ → List Event → List ℕ
advances_of o s [] = []
advances_of o s (e ∷ es) = cond (is_advance o s e.call) (kind e.answer ∷ advances_of o s es) (advances_of o s es)

-- the answers to a sealed transaction's last Advances: Stored for each of its writes, then Done
abbrev pub ending : ℕ → List ℕ
ending writes = replicate writes stored ++ (done ∷ [])

-- ONCE SEALED, EXACTLY w + 1 MORE ADVANCES END IT: whatever other calls stand in between, the next w + 1 Advances by its holder are answered so, in that order
abbrev pub EndsExactly : Tables → Type 0
EndsExactly t =
    (z : Reached t) (o s : ℕ) → kind (advanced t o s) ≡ sealed → (cs : List Call) →
    let after = history (step t (Advance o s)).tables cs in
    let last = ending (write_count ((seen z).seats s)) in
    NoSetup after → take (length last) (advances_of o s after) ≡ take (length (advances_of o s after)) last
