-- Where a new write entry is placed.
use Rattle.std.proofs.Common.{ℕ, ◌≡◌, sym, List}
use Rattle.rules.specs.Tests.{first}
use Rattle.rules.specs.Layout.{writes}
use Rattle.rules.specs.Work.{above, place_of}

-- the place is the rules'
pub place_of_lem : {g part : List ℕ} → part ≡ g → (item : ℕ) {n i : ℕ} → n ≡ writes g → i ≡ first (above part item) n → place_of g item ≡ i
unfolding place_of
place_of_lem e item a q = rw (← a, ← e) (sym q)
