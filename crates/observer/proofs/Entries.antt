-- The entries of a row as the observer has them, and what the changes of a row are to these.
use Prim.Native.Nat.{ℕ, ◌<◌}
use mathlib.Core.Path.{◌≡◌, ap, ◌∙◌, fun_ext}
use mathlib.Core.List.{List, [], ◌∷◌, ◌++◌}
use native.Mathlib.Omega.{arith}
use lib.ListN.{get_or}
use Rattle.rules.specs.Layout.{most_reads, reads_at, writes_at, time_at, read_item_at, read_value_at, write_item_at, write_value_at, reads, writes}
use Rattle.rules.specs.Layout.{read_item, read_value, write_item, write_value}
use Rattle.rows.specs.Changed.{Nudged, WithRead}
use Rattle.observer.specs.Observer.{FirstRead, WriteEntry}
use Rattle.observer.proofs.Segments.{seg, seg_ext, seg_more}

abbrev pub read_at : List ℕ → ℕ → FirstRead
read_at g i = record { item = read_item g i; value = read_value g i }

abbrev pub write_at : List ℕ → ℕ → WriteEntry
write_at g i = record { item = write_item g i; value = write_value g i }

-- those in use
abbrev pub first_reads : List ℕ → List FirstRead
first_reads g = seg (read_at g) 0 (reads g)

abbrev pub write_entries : List ℕ → List WriteEntry
write_entries g = seg (write_at g) 0 (writes g)

pub read_same : (g h : List ℕ) (i j : ℕ)
    → get_or h (read_item_at j) 0 ≡ get_or g (read_item_at i) 0 → get_or h (read_value_at j) 0 ≡ get_or g (read_value_at i) 0 →
    read_at h j ≡ read_at g i
read_same g h i j a b = λ z. record { item = a z; value = b z }

pub write_same : (g h : List ℕ) (i j : ℕ)
    → get_or h (write_item_at j) 0 ≡ get_or g (write_item_at i) 0 → get_or h (write_value_at j) 0 ≡ get_or g (write_value_at i) 0 →
    write_at h j ≡ write_at g i
write_same g h i j a b = λ z. record { item = a z; value = b z }

-- A NUDGED ROW has its entries
module _ {g h : List ℕ} {ph p t : ℕ} (n : Nudged g h ph p t) where
  pub nudged_at : (f : ℕ) → time_at < f → get_or h f 0 ≡ get_or g f 0
  nudged_at f l = n.rest f (omega arith) (omega arith) (omega arith)

  pub nudged_reads : reads h ≡ reads g
  nudged_reads = n.rest reads_at (omega arith) (omega arith) (omega arith)

  pub nudged_writes : writes h ≡ writes g
  nudged_writes = n.rest writes_at (omega arith) (omega arith) (omega arith)

  pub nudged_write : write_at h ≡ write_at g
  nudged_write = fun_ext (λ i. write_same g h i i (nudged_at (write_item_at i) (omega arith)) (nudged_at (write_value_at i) (omega arith)))

  nudged_read : read_at h ≡ read_at g
  nudged_read = fun_ext (λ i. read_same g h i i (nudged_at (read_item_at i) (omega arith)) (nudged_at (read_value_at i) (omega arith)))

  pub nudged_first_reads : first_reads h ≡ first_reads g
  nudged_first_reads = λ z. seg (nudged_read z) 0 (nudged_reads z)

  pub nudged_write_entries : write_entries h ≡ write_entries g
  nudged_write_entries = λ z. seg (nudged_write z) 0 (nudged_writes z)

-- A ROW WITH A NEW READ ENTRY has that after the others, and its write entries
module _ {g h : List ℕ} {item value kept_w kept_r : ℕ} (n : WithRead g h item value kept_w kept_r) (few : reads g < most_reads) where
  noted_read : (i : ℕ) → i < reads g → read_at h i ≡ read_at g i
  noted_read i l = read_same g h i i (n.before (read_item_at i) (omega arith) (omega arith)) (n.before (read_value_at i) (omega arith) (omega arith))

  noted-write : write_at h ≡ write_at g
  noted-write = fun_ext (λ i. write_same g h i i (n.behind (write_item_at i) (omega arith)) (n.behind (write_value_at i) (omega arith)))

  pub noted-first_reads : first_reads h ≡ first_reads g ++ (record { item = item; value = value } ∷ [])
  noted-first_reads =
      ap (seg (read_at h) 0) n.count
      ∙ seg_more (read_at h) (reads g)
      ∙ (λ z. seg_ext (read_at h) (read_at g) (reads g) 0 (λ i _ l. noted_read i (omega arith)) z
      ++ (record { item = n.has_item z; value = n.has_value z } ∷ []))

  pub noted-write_entries : write_entries h ≡ write_entries g
  noted-write_entries = λ z. seg (noted-write z) 0 (n.before writes_at (omega arith) (omega arith) z)
