-- Statements. The document's storm: shares 2 and 3, limits 64 and 3, others 0. Owner 0 opens seat after seat, and owner 1 still gets its three.
use Rattle.std.specs.Prelude.{ℕ, zero, suc, ◌≡◌, List, [], ◌∷◌, ◌++◌, replicate}
use Rattle.rules.specs.Tables.{Tables}
use Rattle.rules.specs.Answers.{ready, kind}
use Rattle.rules.specs.Calls.{Call, Setup, Open, step, answers}
use Rattle.rules.specs.declared.Answer.{Answer}
use Rattle.rules.specs.declared.Answer.TheVariants.{Seat, Refused}

-- sixteen shares, sixteen limits
unfoldable pub storm_plan : List ℕ
storm_plan = 2 ∷ 3 ∷ (replicate 14 0 ++ (64 ∷ 3 ∷ replicate 14 0))

abbrev pub storm : List Call
storm = replicate 61 (Open 0) ++ (Open 0 ∷ (replicate 3 (Open 1) ++ (Open 1 ∷ [])))

-- n seats, one after the other
unfoldable pub seats_from : ℕ → ℕ → List Answer
seats_from s zero = []
seats_from s (suc n) = Seat s ∷ seats_from (suc s) n

-- 61 seats, then 7; three seats, then 6; over any tables on which that Setup answers ready
abbrev pub StormWeathered : Type 0
StormWeathered = (t : Tables) (start : ℕ) → kind (step t (Setup start storm_plan)).answer ≡ ready →
    answers (step t (Setup start storm_plan)).tables storm ≡ seats_from 0 61 ++ (Refused 7 ∷ (seats_from 61 3 ++ (Refused 6 ∷ [])))
