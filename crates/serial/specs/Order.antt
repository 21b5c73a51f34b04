-- Statements. The serial order is the one that is meant: sorted by key, a permutation of the sealed list, equal keys in the order of sealing.
use Rattle.std.specs.Prelude.{ℕ, ◌≤◌, ◌≡◌, cond, eqb}
use mathlib.Core.List.{List, [], ◌∷◌, Memᴰ as In, Permᴰ as Permutation}
use Rattle.observer.specs.Observer.{Transaction}
use Rattle.serial.specs.Statement.{serial}

-- no later one has a smaller key
unfoldable pub Sorted : List Transaction → Type 0
Sorted [] = Unit {0}
Sorted (T ∷ S) = ((U : Transaction) → In U S → T.key ≤ U.key) × Sorted S

-- those of one key, as they stand
unfoldable pub with_key : ℕ → List Transaction → List Transaction
with_key k [] = []
with_key k (T ∷ S) = cond (eqb T.key k) (T ∷ with_key k S) (with_key k S)

pub record Ordered (sealed S : List Transaction) : Type 0 where
  pub sorted : Sorted S
  pub permuted : Permutation sealed S
  pub stable : (k : ℕ) → with_key k S ≡ with_key k sealed

abbrev pub SerialOrdered : Type 0
SerialOrdered = (sealed : List Transaction) → Ordered sealed (serial sealed)

-- no other list is so
abbrev pub OneOrder : Type 0
OneOrder = (sealed S Z : List Transaction) → Ordered sealed S → Ordered sealed Z → S ≡ Z
