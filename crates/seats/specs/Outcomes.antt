-- Outcomes and runs of stores, part by part; and what the code reads from a seat's part of the table is what the rules read from its row.
use Rattle.std.specs.Prelude.{ℕ, ◌<◌, ◌≤◌, min, ◌≡◌, refl, List, get_or, ltb, Option, Some, None, is_some}
use Rattle.std.proofs.Common.{sym, ap, ◌∙◌, arith}
use Rattle.rules.specs.Tests.{first}
use Rattle.rules.specs.Layout.{most_reads, most_writes, put, reads, writes}
use Rattle.rules.specs.Tables.{tables, answered}
use Rattle.rules.specs.Work.{read_names, write_names, read_of, write_of}
use Rattle.rules.specs.declared.Answer.{Answer}
use Rattle.seats.specs.Search.{found, found_some, found_none, is_some_found}

-- two outcomes are the same where their parts are
pub same : {r r' : Answer} {v v' w w' s s' : List ℕ} → r ≡ r' → v ≡ v' → w ≡ w' → s ≡ s' →
    answered r (tables v w s) ≡ answered r' (tables v' w' s')
same r v w s = cc

-- a store after other stores
pub next : {a b l : List ℕ} (s f v : ℕ) {v' : ℕ} → b ≡ put a s f v → a ≡ l → v ≡ v' → b ≡ put l s f v'
next s f v e p q = cc

module _ {g part : List ℕ} (e : part ≡ g) where
  pub entry_at : (k : ℕ) {v : ℕ} → v ≡ get_or part k 0 → get_or g k 0 ≡ v
  entry_at k q = rw (← e) (sym q)

  -- the entry that names a record, in a row that has no more entries than a row can have
  pub read_of_lem : (item : ℕ) {n r : ℕ} → n ≡ reads g → n ≤ most_reads → r ≡ first (read_names part item) (min n most_reads) → read_of g item ≡ r
  unfolding read_of
  read_of_lem item {n} a l q =
      let z : min n most_reads ≡ n = omega arith in
      rw (← a, ← e) (sym (q ∙ ap (first (read_names part item)) z))

  pub write_of_lem : (item : ℕ) {n w : ℕ} → n ≡ writes g → n ≤ most_writes → w ≡ first (write_names part item) (min n most_writes) → write_of g item ≡ w
  unfolding write_of
  write_of_lem item {n} a l q =
      let z : min n most_writes ≡ n = omega arith in
      rw (← a, ← e) (sym (q ∙ ap (first (write_names part item)) z))

  -- where one is found, and where none is
  module _ (item : ℕ) {n : ℕ} {r : Option ℕ} where
    pub read_found : n ≡ reads g → n ≤ most_reads → r ≡ found (read_names part item) (min n most_reads) → {i : ℕ} → r ≡ Some i →
        (read_of g item ≡ i) × (i < reads g)
    read_found a l q {i} is =
        let f = found_some (read_names part item) (min n most_reads) (sym q ∙ is) in
        (read_of_lem item a l (sym f.0), omega (arith, f))

    pub read_missing : n ≡ reads g → n ≤ most_reads → r ≡ found (read_names part item) (min n most_reads) → r ≡ None → reads g ≤ read_of g item
    read_missing a l q is =
        let f = found_none (read_names part item) (min n most_reads) (sym q ∙ is) in
        omega (arith, f, read_of_lem item a l refl)

    pub write_found : n ≡ writes g → n ≤ most_writes → r ≡ found (write_names part item) (min n most_writes) → {i : ℕ} → r ≡ Some i →
        (write_of g item ≡ i) × (i < writes g)
    write_found a l q {i} is =
        let f = found_some (write_names part item) (min n most_writes) (sym q ∙ is) in
        (write_of_lem item a l (sym f.0), omega (arith, f))

    pub write_missing : n ≡ writes g → n ≤ most_writes → r ≡ found (write_names part item) (min n most_writes) → r ≡ None → writes g ≤ write_of g item
    write_missing a l q is =
        let f = found_none (write_names part item) (min n most_writes) (sym q ∙ is) in
        omega (arith, f, write_of_lem item a l refl)

    -- whether one is
    pub write_is_found : n ≡ writes g → n ≤ most_writes → r ≡ found (write_names part item) (min n most_writes) → is_some r ≡ ltb (write_of g item) (writes g)
    write_is_found a l q =
        let z : min n most_writes ≡ n = omega arith in
        ap is_some q ∙ is_some_found _ _ ∙ rw (write_of_lem item a l refl, ← a, z) refl
