-- What is known of a row that is not damaged, and of a call that names a seat and is not refused.
use Rattle.std.specs.Prelude.{ℕ, zero, suc, ◌≤◌, ◌<◌, ◌≡◌, refl, ◌≢◌, Bool, true, false, cond, ◌&&◌, ◌||◌, List, [], ◌∷◌, eqb, ltb, length}
use Rattle.std.proofs.Common.{sym, true≢false, arith, ltb-false, eqb-true, le-leb, leb-false, ne_eqb}
use Rattle.std.proofs.lemmas.Bool.{not-false, eqb-false}
use Rattle.clock.specs.Word.{top}
use Rattle.rules.specs.Tests.{any, one_of, first_of}
use Rattle.rules.specs.Layout.{owners, seat_count, most_records, most_reads, most_writes, row_width, seats_length, row, phase, owner, position}
use Rattle.rules.specs.Layout.{reads, writes, time, read_item, kept_write, write_item}
use Rattle.rules.specs.Places.{length-row}
use Rattle.rules.specs.Tables.{Tables}
use Rattle.rules.specs.Refusals.{unsized, misnamed, misplaced, late, bad_read, bad_write, bad_head}
use Rattle.rules.specs.Refusals.{bad_entry, damaged, foreign, row_refusal, refusal, record_refusal}
use Rattle.rules.specs.Advance.{held_locks}
use Rattle.rows.specs.Search.{none_at}

-- by the two values of a test
pub cond_ind : {A : Type 0} (Q : A → Type 0) (b : Bool) {x y : A} → (b ≡ true → Q x) → (b ≡ false → Q y) → Q (cond b x y)
cond_ind Q true f g = f refl
cond_ind Q false f g = g refl

-- two tests that both hold
pub both : (a b : Bool) → a && b ≡ true → (a ≡ true) × (b ≡ true)
both true b e = (refl, e)
both false b e = (e, absurd (true≢false (sym e)))

-- none of a list of tests holds
abbrev pub Each : List Bool → Type 0
Each [] = Unit {0}
Each (b ∷ bs) = (b ≡ false) × Each bs

pub neither : (a b : Bool) → a || b ≡ false → (a ≡ false) × (b ≡ false)
neither true b e = (e, absurd (true≢false e))
neither false b e = (refl, e)

pub none_of : (bs : List Bool) → one_of bs ≡ false → Each bs
unfolding one_of
none_of [] e = tt
none_of (b ∷ []) e = (e, tt)
none_of (b ∷ c ∷ bs) e = ((neither b _ e).0, none_of (c ∷ bs) (neither b _ e).1)

pub first-none : (k : ℕ) (bs : List Bool) → first_of (suc k) bs ≡ 0 → Each bs
unfolding first_of
first-none k [] e = tt
first-none k (true ∷ bs) e = absurd (omega arith)
first-none k (false ∷ bs) e = (refl, first-none (suc k) bs e)

-- a refusal that is not given: its test fails, and none of a higher number is given
pub not_given : (b : Bool) (k : ℕ) {n : ℕ} → cond b (suc k) n ≡ 0 → (b ≡ false) × (n ≡ 0)
not_given true k e = absurd (omega arith)
not_given false k e = (refl, e)

-- THE TABLES have the right lengths
pub record Sized (t : Tables) : Type 0 where
  pub same : length t.values ≡ length t.words
  pub some : 1 ≤ length t.words
  pub few : length t.words ≤ most_records
  pub rows : length t.seats ≡ seats_length

pub sized_of : (t : Tables) → unsized (length t.values) (length t.words) (length t.seats) ≡ false → Sized t
unfolding unsized
sized_of t e =
    let r = none_of _ e in
    let some : length t.words ≢ 0 = eqb-false _ _ r.1.0 in
    record {
      same = eqb-true _ _ (not-false _ r.0);
      some = omega arith;
      few = ltb-false _ _ r.1.1.0;
      rows = eqb-true _ _ (not-false _ r.1.1.1.0);
    }

-- A ROW IN USE that is not damaged, over a number of records
pub record Sound (g : List ℕ) (records : ℕ) : Type 0 where
  pub phase_in : phase g ≤ 4
  pub owner_in : owner g < owners
  pub reads_in : reads g ≤ most_reads
  pub writes_in : writes g ≤ most_writes
  pub in_place : misplaced (phase g) (position g) (reads g) (writes g) ≡ false
  pub timely : late (phase g) (time g) ≡ false
  pub good_reads : any (bad_read g records) (reads g) ≡ false
  pub good_writes : any (bad_write g records) (writes g) ≡ false

pub sound_of : (g : List ℕ) (records : ℕ) → damaged g records ≡ false → phase g ≢ 0 → Sound g records
unfolding damaged bad_head bad_entry
sound_of g records e used =
    let both = none_of _ (rw (ne_eqb _ _ used) at e) in
    let head = none_of _ both.0 in
    let entries = none_of _ both.1.0 in
    record {
      phase_in = ltb-false _ _ head.0;
      owner_in = leb-false _ _ head.1.0;
      reads_in = ltb-false _ _ head.1.1.0;
      writes_in = ltb-false _ _ head.1.1.1.0;
      in_place = head.1.1.1.1.0;
      timely = head.1.1.1.1.1.0;
      good_reads = entries.0;
      good_writes = entries.1.0;
    }

module _ (g : List ℕ) (records : ℕ) (h : Sound g records) where
  -- an entry in use names a record
  pub read_item_lem : (i : ℕ) → i < reads g → read_item g i < records
  unfolding bad_read
  read_item_lem i l = leb-false _ _ (none_of _ (none_at _ _ i h.good_reads l)).0

  pub write_item_lem : (i : ℕ) → i < writes g → write_item g i < records
  unfolding bad_write
  write_item_lem i l = leb-false _ _ (none_at _ _ i h.good_writes l)

  -- in phases 3 and 4 the time is not above T, and no kept write time is above the time
  pub time-top : 3 ≤ phase g → time g ≤ top
  unfolding late
  time-top p = ltb-false _ _ (simp (le-leb _ _ p) at h.timely)

  pub kept_below : (i : ℕ) → 3 ≤ phase g → i < reads g → kept_write g i ≤ time g
  unfolding bad_read
  kept_below i p l = ltb-false _ _ (simp (le-leb _ _ p) at (none_of _ (none_at _ _ i h.good_reads l)).1.0)

  -- the position that each phase has
  pub position-one : phase g ≡ 1 → position g ≡ 0
  unfolding misplaced
  position-one e = eqb-true _ _ (not-false _ (rw e at h.in_place))

  pub position-two : phase g ≡ 2 → (position g ≢ 0) × (position g ≤ writes g)
  unfolding misplaced
  position-two e =
      let n = neither (eqb (position g) 0) (ltb (writes g) (position g)) (rw e at h.in_place) in
      (eqb-false _ _ n.0, ltb-false _ _ n.1)

  pub position_three : phase g ≡ 3 → position g ≤ reads g
  unfolding misplaced
  position_three e = ltb-false _ _ (rw e at h.in_place)

  pub position_low : phase g ≢ 0 → phase g ≤ 2 → position g ≤ writes g
  position_low d l = go (phase g) refl
    where
      go : (n : ℕ) → phase g ≡ n → position g ≤ writes g
      go zero e = absurd (d e)
      go (suc zero) e = let z = position-one e in omega arith
      go (suc (suc zero)) e = (position-two e).1
      go (suc (suc (suc n))) e = absurd (omega arith)

  -- a row in phases 1 to 3 holds no more locks than it has writes
  pub locks_small : phase g ≢ 0 → phase g ≤ 3 → held_locks g ≤ writes g
  unfolding held_locks
  locks_small d l =
      cond_ind (λ (n : ℕ). n ≤ writes g) (eqb (phase g) 3) (λ e. omega arith) (λ e. let q : phase g ≢ 3 = eqb-false _ _ e in position_low d (omega arith))

-- A CALL THAT NAMES A SEAT and is not refused
pub record Fine (t : Tables) (o s last : ℕ) : Type 0 where
  pub sized : Sized t
  pub owner_in : o < owners
  pub seat_in : s < seat_count
  pub used : phase (row t.seats s) ≢ 0
  pub sound : Sound (row t.seats s) (length t.words)
  pub own : owner (row t.seats s) ≡ o
  pub phase_in : phase (row t.seats s) ≤ last

-- the tests that it passed: the lengths, what it names, and the row's
not-refused : (t : Tables) (o s : ℕ) (unknown : Bool) (last : ℕ) → refusal t o s unknown last ≡ 0 →
    (unsized (length t.values) (length t.words) (length t.seats) ≡ false)
    × (misnamed o s unknown ≡ false)
    × (row_refusal (row t.seats s) (length t.words) o last ≡ 0)
unfolding refusal
not-refused t o s unknown last e =
    let sized = not_given _ 0 e in
    let named = not_given _ 1 sized.1 in
    (sized.0, named.0, named.1)

pub fine : (t : Tables) (o s : ℕ) (unknown : Bool) (last : ℕ) → refusal t o s unknown last ≡ 0 → Fine t o s last
unfolding row_refusal foreign misnamed
fine t o s unknown last e =
    let passed = not-refused t o s unknown last e in
    let named = none_of _ passed.1 in
    let r = first-none 2 _ passed.2 in
    let mine = none_of _ r.1.0 in
    let used = eqb-false _ _ mine.0 in
    record {
      sized = sized_of t passed.0;
      owner_in = leb-false _ _ named.0;
      seat_in = leb-false _ _ named.1.0;
      used = used;
      sound = sound_of _ _ r.0 used;
      own = eqb-true _ _ (not-false _ mine.1.0);
      phase_in = ltb-false _ _ r.1.1.0;
    }

-- where it names a record too, there is that record
pub item_in : (t : Tables) (o s item last : ℕ) → record_refusal t o s item last ≡ 0 → item < length t.words
unfolding misnamed
item_in t o s item last e = leb-false _ _ (none_of _ (not-refused t o s _ last e).1).1.1.0

-- its row is whole
pub fine-row : {t : Tables} {o s last : ℕ} → Fine t o s last → length (row t.seats s) ≡ row_width
fine-row {t} {s = s} f = length-row t.seats s f.sized.rows f.seat_in
