-- A row in use: after a change of phase, position and time; that it is not damaged; and how far its locks and its Advances go, by phase.
use Prim.Native.Nat.{ℕ, ◌+◌, ◌<◌, ◌≤◌}
use mathlib.Core.Path.{◌≡◌, refl, ◌∙◌}
use mathlib.Core.Logic.{◌≢◌}
use mathlib.Core.Bool.{false}
use mathlib.Core.List.{List}
use native.Mathlib.Omega.{arith}
use borrow.Author.Tests.{le-leb, lt-leb, leb-true, eqb-true, eqb-false, eq-eqb, ne_eqb, le-ltb}
use lib.Dec.{leb, ltb, eqb}
use Rattle.clock.specs.Word.{top}
use Rattle.rules.specs.Layout.{owners, most_reads, most_writes, phase_at, owner_at, read_item_at, kept_write_at, kept_read_at, write_item_at, phase, storing}
use Rattle.rules.specs.Layout.{owner, position, reads, writes, time, read_item, kept_write, write_item}
use Rattle.rules.specs.Refusals.{misplaced, late, bad_read, bad_write, damaged, bad_head, bad_entry}
use Rattle.rules.specs.Advance.{held_locks}
use Rattle.rows.specs.Search.{none_any}
use Rattle.rows.specs.Changed.{Nudged}
use Rattle.observer.proofs.Entries.{nudged_at, nudged_reads, nudged_writes}
use Rattle.reach.specs.Invariants.{lock_from, lock_to}
use Rattle.reach.proofs.Tests.{by, only_where, all_none}
use Rattle.reach.proofs.InOrder.{Zero, HeadInOrder, Entries, Used, Row, steps_taken}

-- A NUDGED ROW keeps its entries
module _ {g h : List ℕ} {ph p t : ℕ} (z : Nudged g h ph p t) where
  pub nudged_owner : owner h ≡ owner g
  nudged_owner = z.rest owner_at (omega arith) (omega arith) (omega arith)

  -- its head, number by number
  pub nudged_head : (phase h ≡ ph) × (owner h ≡ owner g) × (position h ≡ p) × (reads h ≡ reads g) × (writes h ≡ writes g) × (time h ≡ t)
  nudged_head = (z.is_phase, nudged_owner, z.is_position, nudged_reads z, nudged_writes z, z.is_time)

  pub entries_nudged : {n : ℕ} → Entries n g → Entries n h
  entries_nudged k =
      let r = nudged_reads z in
      let w = nudged_writes z in
      record {
        reads_in = let a = k.reads_in in omega arith;
        writes_in = let a = k.writes_in in omega arith;
        read_in_lem = λ i l. rw (nudged_at z (read_item_at i) (omega arith)) (k.read_in_lem i (omega arith));
        write_in_lem = λ i l. rw (nudged_at z (write_item_at i) (omega arith)) (k.write_in_lem i (omega arith));
        distinct = λ i j a l. rw (nudged_at z (read_item_at i) (omega arith), nudged_at z (read_item_at j) (omega arith)) (k.distinct i j a (omega arith));
        ascending = λ i j a l. rw (nudged_at z (write_item_at i) (omega arith), nudged_at z (write_item_at j) (omega arith)) (k.ascending i j a (omega arith));
        ordered = λ i l. rw (nudged_at z (kept_write_at i) (omega arith), nudged_at z (kept_read_at i) (omega arith)) (k.ordered i (omega arith));
        kept_timely = λ i l. rw (nudged_at z (kept_read_at i) (omega arith)) (k.kept_timely i (omega arith));
        no_read = λ f a l. nudged_at z f (omega arith) ∙ k.no_read f (omega arith) l;
        no_write = λ f a l. nudged_at z f (omega arith) ∙ k.no_write f (omega arith) l;
      }

  pub used_nudged : {n : ℕ} → Used n g → HeadInOrder h → (3 ≤ ph → (i : ℕ) → i < reads g → kept_write g i ≤ t) → Used n h
  used_nudged u hd k =
      let r = nudged_reads z in
      let e = z.is_phase in
      let q = z.is_time in
      record {
        head = hd;
        entries = entries_nudged u.entries;
        not_below = λ a i l. let b = k (omega arith) i (omega arith) in let y = nudged_at z (kept_write_at i) (omega arith) in omega arith;
      }

pub row-used : {n : ℕ} {g : List ℕ} → Used n g → Row n g
row-used u = let h = u.head.used in record { free = λ e. absurd (omega arith); in_use = λ d. u }

pub row_zero : (n : ℕ) {g : List ℕ} → Zero g → Row n g
row_zero n z = record { free = λ e. z; in_use = λ d. absurd (d (z phase_at (omega arith))) }

-- A ROW IN ORDER IS NOT DAMAGED
placed_well : (g : List ℕ) → HeadInOrder g → misplaced (phase g) (position g) (reads g) (writes g) ≡ false
unfolding misplaced
placed_well g h =
    let hu = h.used in
    let hp = h.phase_in in
    by (eqb (phase g) 1) (λ e. rw (e, eq-eqb (position g) 0 (h.working (eqb-true _ _ e))) refl)
    (λ e1. rw e1 (by (eqb (phase g) 2)
    (λ e. let q = h.locking (eqb-true _ _ e) in rw (e, ne_eqb (position g) 0 (omega arith), le-ltb (writes g) (position g) (omega arith)) refl)
    (λ e2. rw e2 (by (eqb (phase g) 3)
    (λ e. rw e (le-ltb (reads g) (position g) (h.checking (eqb-true _ _ e))))
    (λ e3. rw e3 (
    let d1 : phase g ≢ 1 = eqb-false _ _ e1 in
    let d2 : phase g ≢ 2 = eqb-false _ _ e2 in
    let d3 : phase g ≢ 3 = eqb-false _ _ e3 in
    le-ltb (writes g) (position g) (h.storing (omega arith))))))))

good_read : (g : List ℕ) (n : ℕ) → Used n g → (i : ℕ) → i < reads g → bad_read g n i ≡ false
unfolding bad_read
good_read g n u i l =
    let kept = only_where (leb 3 (phase g)) (ltb (time g) (kept_write g i)) (λ e. le-ltb (time g) (kept_write g i) (u.not_below (leb-true _ _ e) i l)) in
    all_none _ (lt-leb n (read_item g i) (u.entries.read_in_lem i l), (kept, tt))

good_write : (g : List ℕ) (n : ℕ) → Used n g → (i : ℕ) → i < writes g → bad_write g n i ≡ false
unfolding bad_write
good_write g n u i l = lt-leb n (write_item g i) (u.entries.write_in_lem i l)

good_time : (g : List ℕ) → HeadInOrder g → late (phase g) (time g) ≡ false
unfolding late
good_time g h = only_where (leb 3 (phase g)) (ltb top (time g)) (λ e. le-ltb top (time g) h.timely)

pub undamaged : (g : List ℕ) (n : ℕ) → Row n g → damaged g n ≡ false
unfolding damaged bad_head bad_entry
undamaged g n r =
    by (eqb (phase g) 0) (λ e. rw e refl)
    (λ e. let u = r.in_use (eqb-false _ _ e) in
    let h = u.head in
    let k = u.entries in
    let reads-good = none_any (bad_read g n) (reads g) (good_read g n u) in
    let writes-good = none_any (bad_write g n) (writes g) (good_write g n u) in
    let head = all_none _ (
      le-ltb storing (phase g) h.phase_in,
      (
        lt-leb owners (owner g) h.owner_in,
        (
          le-ltb most_reads (reads g) k.reads_in,
          (le-ltb most_writes (writes g) k.writes_in, (placed_well g h, (good_time g h, tt))),
        ),
      ),
    ) in
    rw e (all_none _ (head, (all_none _ (reads-good, (writes-good, tt)), tt))))

-- HOW FAR locks and Advances go, by phase
module _ (g : List ℕ) where
  pub from_zero : phase g ≢ 4 → lock_from g ≡ 0
  unfolding lock_from
  from_zero h = rw (ne_eqb _ _ h)

  pub from_four : phase g ≡ 4 → lock_from g ≡ position g
  unfolding lock_from
  from_four h = rw (eq-eqb _ _ h)

  pub to_early : phase g ≤ 2 → lock_to g ≡ position g
  unfolding lock_to
  to_early h = rw (lt-leb 3 (phase g) (omega arith))

  pub to_late : 3 ≤ phase g → lock_to g ≡ writes g
  unfolding lock_to
  to_late h = rw (le-leb 3 (phase g) h)

  pub to_held : phase g ≤ 3 → lock_to g ≡ held_locks g
  unfolding held_locks
  to_held h =
      by (eqb (phase g) 3)
      (λ e. let q = eqb-true (phase g) 3 e in rw e (to_late (omega arith)))
      (λ e. let q : phase g ≢ 3 = eqb-false _ _ e in rw e (to_early (omega arith)))

  pub steps_early : phase g ≤ 2 → steps_taken g ≡ position g
  unfolding steps_taken
  steps_early h = rw (le-leb (phase g) 2 h)

  pub steps_three : phase g ≡ 3 → steps_taken g ≡ writes g + 1 + position g
  unfolding steps_taken
  steps_three h = rw (lt-leb (phase g) 2 (omega arith), eq-eqb _ _ h)

  pub steps_four : phase g ≡ 4 → steps_taken g ≡ writes g + reads g + 2 + position g
  unfolding steps_taken
  steps_four h = rw (lt-leb (phase g) 2 (omega arith), ne_eqb (phase g) 3 (omega arith))

  pub early_fits : HeadInOrder g → phase g ≤ 2 → position g ≤ writes g
  early_fits h p =
      let u = h.used in
      by (eqb (phase g) 1)
      (λ e. let q = h.working (eqb-true _ _ e) in omega arith)
      (λ e. let d : phase g ≢ 1 = eqb-false _ _ e in let q = h.locking (omega arith) in omega arith)
