-- Write in a row, and in what the observer has seen, are the same: an entry that takes the new value, or a new entry in its place.
use Prim.Native.Nat.{ℕ, zero, suc, ◌+◌, ◌≤◌, ◌<◌}
use mathlib.Core.Path.{◌≡◌, refl, sym, ap, ◌∙◌}
use mathlib.Core.Logic.{◌≢◌}
use mathlib.Core.Bool.{Bool, true, false, cond}
use mathlib.Core.List.{List, [], ◌∷◌}
use native.Mathlib.Omega.{arith}
use native.Mathlib.Numerals.{add-one}
use lib.Dec.{eqb, ltb}
use lib.ListN.{length, get_or, set}
use lib.Seq.{get_or-set_same, get_or-set_other}
use Rattle.rules.specs.Tests.{scan}
use Rattle.rules.specs.Layout.{row_width, write_width, most_reads, most_writes, reads_at, writes_at, read_item_at, read_value_at, writes_from}
use Rattle.rules.specs.Layout.{write_item_at, write_value_at, reads, writes}
use Rattle.rules.specs.Work.{write_names, write_of, above, place_of}
use Rattle.rows.specs.Search.{first_le}
use Rattle.rows.specs.Changed.{WithWrite}
use Rattle.observer.specs.Observer.{WriteEntry, folded, renewed, inserted}
use Rattle.observer.proofs.Segments.{seg, seg_ext}
use Rattle.observer.proofs.Entries.{read_at, write_at, first_reads, write_entries, read_same, write_same}

-- LISTS
scan_ge : (p : ℕ → Bool) (n i : ℕ) → i ≤ scan p i n
unfolding scan
scan_ge p zero i = omega arith
scan_ge p (suc n) i = go (p i) (scan_ge p n (suc i))
  where
    go : (b : Bool) → suc i ≤ scan p (suc i) n → i ≤ cond b i (scan p (suc i) n)
    go true h = omega arith
    go false h = omega arith

module _ (f h : ℕ → WriteEntry) (item v : ℕ) where
  -- h is f, but for the first entry of the record
  abbrev match : ℕ → Bool
  match j = eqb (f j).item item

  renewed-seg : (n i : ℕ) → ((j : ℕ) → j ≢ scan match i n → h j ≡ f j) → h (scan match i n) ≡ folded (f (scan match i n)) v →
      renewed item v (seg f i n) ≡ seg h i n
  unfolding seg renewed scan
  renewed-seg zero i a b = refl
  renewed-seg (suc n) i a b = go (eqb (f i).item item) (scan_ge match n (suc i)) (renewed-seg n (suc i)) a b
    where
      m : ℕ
      m = scan match (suc i) n

      go : (c : Bool) → suc i ≤ m → (((j : ℕ) → j ≢ m → h j ≡ f j) → h m ≡ folded (f m) v → renewed item v (seg f (suc i) n) ≡ seg h (suc i) n) →
          ((j : ℕ) → j ≢ cond c i m → h j ≡ f j) → h (cond c i m) ≡ folded (f (cond c i m)) v →
          cond c (folded (f i) v ∷ seg f (suc i) n) (f i ∷ renewed item v (seg f (suc i) n)) ≡ h i ∷ seg h (suc i) n
      go true l k a b = λ z. sym b z ∷ sym (seg_ext h f n (suc i) (λ j p q. a j (omega arith))) z
      go false l k a b = λ z. sym (a i (omega arith)) z ∷ k a b z

  -- h is f, with the new entry before the first that passes, and those from there on one place further up
  abbrev beyond : ℕ → Bool
  beyond j = ltb item (f j).item

  seg_up : (n i : ℕ) → ((j : ℕ) → i ≤ j → j < i + n → h (suc j) ≡ f j) → seg f i n ≡ seg h (suc i) n
  unfolding seg
  seg_up zero i a = refl
  seg_up (suc n) i a = λ z. sym (a i (omega arith) (omega arith)) z ∷ seg_up n (suc i) (λ j p q. a j (omega arith) (omega arith)) z

  inserted-seg : (n i : ℕ) → ((j : ℕ) → j < scan beyond i n → h j ≡ f j) → h (scan beyond i n) ≡ record { item = item; value = v } →
      ((j : ℕ) → scan beyond i n ≤ j → j < i + n → h (suc j) ≡ f j) → inserted item v (seg f i n) ≡ seg h i (suc n)
  unfolding seg inserted scan
  inserted-seg zero i a b c = λ z. sym b z ∷ []
  inserted-seg (suc n) i a b c = go (ltb item (f i).item) (scan_ge beyond n (suc i)) (inserted-seg n (suc i)) (seg_up (suc n) i) a b c
    where
      m : ℕ
      m = scan beyond (suc i) n

      go : (d : Bool) → suc i ≤ m →
          (((j : ℕ) → j < m → h j ≡ f j) → h m ≡ record { item = item; value = v } →
          ((j : ℕ) → m ≤ j → j < suc i + n → h (suc j) ≡ f j) → inserted item v (seg f (suc i) n) ≡ h (suc i) ∷ seg h (suc (suc i)) n) →
          (((j : ℕ) → i ≤ j → j < i + suc n → h (suc j) ≡ f j) → f i ∷ seg f (suc i) n ≡ h (suc i) ∷ seg h (suc (suc i)) n) →
          ((j : ℕ) → j < cond d i m → h j ≡ f j) → h (cond d i m) ≡ record { item = item; value = v } →
          ((j : ℕ) → cond d i m ≤ j → j < i + suc n → h (suc j) ≡ f j) →
          cond d (record { item = item; value = v } ∷ f i ∷ seg f (suc i) n) (f i ∷ inserted item v (seg f (suc i) n)) ≡ h i ∷ h (suc i) ∷ seg h (suc (suc i)) n
      go true l k e a b c = λ z. sym b z ∷ e c z
      go false l k e a b c = λ z. sym (a i (omega arith)) z ∷ k a b (λ j p q. c j p (omega arith)) z

-- ROWS
-- the numbers before the write entries are the same, but perhaps the count of writes
abbrev pub SameFront : List ℕ → List ℕ → Type 0
SameFront g h = (f : ℕ) → f ≢ writes_at → f < writes_from → get_or h f 0 ≡ get_or g f 0

pub front_reads : (g h : List ℕ) → SameFront g h → reads g ≤ most_reads → first_reads h ≡ first_reads g
front_reads g h s few =
    ap (seg (read_at h) 0) (s reads_at (omega arith) (omega arith))
    ∙ seg_ext (read_at h) (read_at g) (reads g) 0
    (λ i _ l. read_same g h i i (s (read_item_at i) (omega arith) (omega arith)) (s (read_value_at i) (omega arith) (omega arith)))

-- the first entry for the record takes the value
module _ (g : List ℕ) (item v : ℕ) (size : length g ≡ row_width) (few : writes g ≤ most_writes) (found : write_of g item < writes g) where
  abbrev renewed_row : List ℕ
  renewed_row = set g (write_value_at (write_of g item)) v

  pub renewed-front : SameFront g renewed_row
  renewed-front f d l = get_or-set_other g (write_value_at (write_of g item)) f v 0 (omega arith)

  pub renewed-writes : write_entries renewed_row ≡ renewed item v (write_entries g)
  unfolding write_of write_names folded
  renewed-writes =
      let i : ℕ = write_of g item in
      let at_item = get_or-set_other g (write_value_at i) (write_item_at i) v 0 (omega arith) in
      let at_value = get_or-set_same g (write_value_at i) v 0 (omega arith) in
      ap (seg (write_at renewed_row) 0) (get_or-set_other g (write_value_at i) writes_at v 0 (omega arith))
      ∙ sym (renewed-seg (write_at g) (write_at renewed_row) item v (writes g) 0
      (λ j d. write_same g renewed_row j j (get_or-set_other g (write_value_at i) (write_item_at j) v 0 (omega arith))
      (get_or-set_other g (write_value_at i) (write_value_at j) v 0 (omega arith)))
      (λ z. record { item = at_item z; value = at_value z }))

-- a new entry in its place
module _ (g h : List ℕ) (item v : ℕ) (p : WithWrite g h (place_of g item) item v) where
  pub placed-front : SameFront g h
  placed-front f d l = p.before f d (omega arith)

  pub placed-writes : write_entries h ≡ inserted item v (write_entries g)
  unfolding place_of above
  placed-writes =
      let i : ℕ = place_of g item in
      let low : i ≤ writes g = first_le (above g item) (writes g) in
      ap (seg (write_at h) 0) (p.count ∙ add-one (writes g))
      ∙ sym (inserted-seg (write_at g) (write_at h) item v (writes g) 0
      (λ j l. write_same g h j j (p.before (write_item_at j) (omega arith) (omega arith)) (p.before (write_value_at j) (omega arith) (omega arith)))
      (λ z. record { item = p.has_item z; value = p.has_value z })
      (λ j a b. write_same g h j (suc j) (up (write_item_at j) (write_item_at (suc j)) (omega arith) (omega arith) (omega arith))
      (up (write_value_at j) (write_value_at (suc j)) (omega arith) (omega arith) (omega arith))))
    where
      up : (f e : ℕ) → e ≡ f + write_width → write_item_at (place_of g item) ≤ f → f < write_item_at (writes g) → get_or h e 0 ≡ get_or g f 0
      up f e q a b = rw q (p.up f a b)
