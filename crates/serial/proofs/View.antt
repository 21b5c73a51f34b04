-- A row of the seat table as a seat of the protocol, and what the changes of a row are to that view.
use Prim.Native.Nat.{ℕ, zero, suc, ◌-◌, ◌≤◌, ◌<◌}
use mathlib.Core.Path.{◌≡◌, refl, ap, ◌∙◌, fun_ext}
use mathlib.Core.Logic.{◌≢◌}
use mathlib.Core.List.{List, [], ◌∷◌, ◌++◌, map}
use native.Mathlib.Omega.{arith}
use lib.ListN.{get_or}
use Rattle.rules.specs.Layout.{most_reads, reads_at, time_at, read_item_at, read_value_at, kept_write_at, kept_read_at}
use Rattle.rules.specs.Layout.{phase, position, reads, writes, time, read_item, read_value, kept_write, kept_read}
use Rattle.rows.specs.Changed.{Nudged, WithRead}
use Rattle.observer.specs.Observer.{WriteEntry}
use Rattle.observer.proofs.Segments.{seg, seg_ext, seg_more, seg-map}
use Rattle.observer.proofs.Entries.{write_at, first_reads, write_entries, nudged_reads, nudged_writes, nudged_write}
use Rattle.observer.proofs.Folds.{SameFront}
use Rattle.serial.proofs.Protocol.{ReadEntry, Seat, free, working, checking, storing}
use Rattle.serial.proofs.Seal.{first_read_of}

-- ENTRIES
abbrev pub entry_at : List ℕ → ℕ → ReadEntry
entry_at g i =
    record { told = record { item = read_item g i; value = read_value g i }; kept_write = kept_write g i; kept_read = kept_read g i }

-- those in use
abbrev pub read_entries : List ℕ → List ReadEntry
read_entries g = seg (entry_at g) 0 (reads g)

-- what their readers were told is what the observer sees
pub first-reads_are : (g : List ℕ) → map first_read_of (read_entries g) ≡ first_reads g
first-reads_are g = seg-map first_read_of (entry_at g) (reads g) 0

-- THE SEAT, by phase, position, reads, writes, time and the entries; n is its key
unfoldable pub seat_of : (n ph p r w t : ℕ) → (ℕ → ReadEntry) → (ℕ → WriteEntry) → Seat
seat_of n zero p r w t e x = free
seat_of n (suc zero) p r w t e x = working (seg e 0 r) (seg x 0 p)
seat_of n (suc (suc zero)) p r w t e x = working (seg e 0 r) (seg x 0 p)
seat_of n (suc (suc (suc zero))) p r w t e x = checking (record { key = n; time = t }) (seg e 0 p) (seg e p (r - p)) (seg x 0 w)
seat_of n (suc (suc (suc (suc zero)))) p r w t e x = storing (record { key = n; time = t }) (seg x p (w - p))
seat_of n (suc (suc (suc (suc (suc m))))) p r w t e x = free

abbrev pub view : ℕ → List ℕ → Seat
view n g = seat_of n (phase g) (position g) (reads g) (writes g) (time g) (entry_at g) (write_at g)

-- by phase
pub view_early : (n : ℕ) (g : List ℕ) → phase g ≢ 0 → phase g ≤ 2 → view n g ≡ working (read_entries g) (seg (write_at g) 0 (position g))
unfolding seat_of
view_early n g = go (phase g)
  where
    go : (ph : ℕ) → ph ≢ 0 → ph ≤ 2 →
        seat_of n ph (position g) (reads g) (writes g) (time g) (entry_at g) (write_at g) ≡ working (read_entries g) (seg (write_at g) 0 (position g))
    go zero d l = absurd (d refl)
    go (suc zero) d l = refl
    go (suc (suc zero)) d l = refl
    go (suc (suc (suc m))) d l = absurd (omega arith)

pub view-checking : (n : ℕ) (g : List ℕ) → phase g ≡ 3 →
    view n g ≡ checking (record { key = n; time = time g })
    (seg (entry_at g) 0 (position g)) (seg (entry_at g) (position g) (reads g - position g)) (write_entries g)
unfolding seat_of
view-checking n g e = rw e

pub view-storing : (n : ℕ) (g : List ℕ) → phase g ≡ 4 →
    view n g ≡ storing (record { key = n; time = time g }) (seg (write_at g) (position g) (writes g - position g))
unfolding seat_of
view-storing n g e = rw e

pub view-working : (n : ℕ) (g : List ℕ) → phase g ≡ 1 → position g ≡ 0 → view n g ≡ working (read_entries g) []
unfolding seg
view-working n g a b = view_early n g (omega arith) (omega arith) ∙ rw b

-- entries are the same where their numbers are
pub entry_same : (g h : List ℕ) (i : ℕ)
    → get_or h (read_item_at i) 0 ≡ get_or g (read_item_at i) 0 → get_or h (read_value_at i) 0 ≡ get_or g (read_value_at i) 0 →
    get_or h (kept_write_at i) 0 ≡ get_or g (kept_write_at i) 0 → get_or h (kept_read_at i) 0 ≡ get_or g (kept_read_at i) 0 → entry_at h i ≡ entry_at g i
entry_same g h i a b c d = λ z. record { told = record { item = a z; value = b z }; kept_write = c z; kept_read = d z }

-- A NUDGED ROW has its entries
module _ {g h : List ℕ} {ph p t : ℕ} (n : Nudged g h ph p t) where
  nudged_entry : entry_at h ≡ entry_at g
  nudged_entry =
      fun_ext (λ i. entry_same g h i
      (at (read_item_at i) (omega arith)) (at (read_value_at i) (omega arith)) (at (kept_write_at i) (omega arith)) (at (kept_read_at i) (omega arith)))
    where
      at : (f : ℕ) → time_at < f → get_or h f 0 ≡ get_or g f 0
      at f l = n.rest f (omega arith) (omega arith) (omega arith)

  pub nudged_view : (key : ℕ) → view key h ≡ seat_of key ph p (reads g) (writes g) t (entry_at g) (write_at g)
  nudged_view key = λ z. seat_of key (n.is_phase z) (n.is_position z) (nudged_reads n z) (nudged_writes n z) (n.is_time z) (nudged_entry z) (nudged_write n z)

-- A ROW WITH A NEW READ ENTRY has that after the others
module _ {g h : List ℕ} {item value kept_w kept_r : ℕ} (n : WithRead g h item value kept_w kept_r) (few : reads g < most_reads) where
  noted_entry : (i : ℕ) → i < reads g → entry_at h i ≡ entry_at g i
  noted_entry i l =
      entry_same g h i (n.before (read_item_at i) (omega arith) (omega arith)) (n.before (read_value_at i) (omega arith) (omega arith))
      (n.before (kept_write_at i) (omega arith) (omega arith)) (n.before (kept_read_at i) (omega arith) (omega arith))

  pub noted-read_entries : read_entries h
      ≡ read_entries g ++ (record { told = record { item = item; value = value }; kept_write = kept_w; kept_read = kept_r } ∷ [])
  noted-read_entries =
      ap (seg (entry_at h) 0) n.count
      ∙ seg_more (entry_at h) (reads g)
      ∙ (λ z. seg_ext (entry_at h) (entry_at g) (reads g) 0 (λ i _ l. noted_entry i (omega arith)) z
      ++ (record { told = record { item = n.has_item z; value = n.has_value z }; kept_write = n.has-kept_write z; kept_read = n.has-kept_read z } ∷ []))

-- A ROW WITH THE SAME FRONT has its read entries
pub front_entries : (g h : List ℕ) → SameFront g h → reads g ≤ most_reads → read_entries h ≡ read_entries g
front_entries g h same few =
    ap (seg (entry_at h) 0) (same reads_at (omega arith) (omega arith))
    ∙ seg_ext (entry_at h) (entry_at g) (reads g) 0
    (λ i _ l. entry_same g h i
    (same (read_item_at i) (omega arith) (omega arith)) (same (read_value_at i) (omega arith) (omega arith))
    (same (kept_write_at i) (omega arith) (omega arith)) (same (kept_read_at i) (omega arith) (omega arith)))
