-- What the tables hold at all times from Setup on: one theorem for each fact of specs/Invariants.
use Prim.Native.Nat.{ℕ, ◌<◌, ◌≤◌}
use mathlib.Core.Path.{◌≡◌, sym, ap, ◌∙◌}
use mathlib.Core.Logic.{◌≢◌}
use mathlib.Core.Bool.{Bool, true}
use mathlib.Core.List.{List, map}
use native.Mathlib.Omega.{arith}
use native.Mathlib.Decide.{dec_lt}
use borrow.Author.Tests.{eqb-true, eqb-false}
use lib.Dec.{eqb}
use lib.ListN.{length, get_or}
use Rattle.clock.specs.Word.{is_locked}
use Rattle.clock.proofs.Laws.{write_time_small}
use Rattle.rules.specs.Tests.{count}
use Rattle.rules.specs.Layout.{seat_count, row, reads, read_item, write_item}
use Rattle.rules.specs.Tables.{Tables}
use Rattle.observer.specs.Observer.{Seen}
use Rattle.observer.proofs.Segments.{seg_at, seg-map}
use Rattle.observer.proofs.Entries.{read_at}
use Rattle.reach.specs.Reached.{Reached}
use Rattle.reach.specs.Invariants.{first_item, Holds, LockedIsHeld, OneHolder, AlwaysSized, NeverDamaged, InUse, WritesAscend}
use Rattle.reach.specs.Invariants.{ReadsDistinct, ReadsInOrder, ReadsInRange, WritesInRange, UnusedReadsZero, UnusedWritesZero, UntimedZero}
use Rattle.reach.specs.Invariants.{FreeRowsZero, WordsTimely, KeptTimely, CommitTimely, KeptOrdered, CommitNotBelow}
use Rattle.reach.proofs.Tests.{by}
use Rattle.reach.proofs.Count.{one, one_le, count-has, count-some, count-two}
use Rattle.reach.proofs.InOrder.{locks, InOrder, Used}
use Rattle.reach.proofs.Named.{named_yes, named-has}
use Rattle.reach.proofs.Rows.{undamaged}
use Rattle.reach.proofs.Reached.{reached_in_order}
use Rattle.reach.proofs.Observed.{seat_is, reads_are}

-- LOCKS
holds-locks : (t : Tables) (s item : ℕ) → Holds t s item → locks (row t.seats s) item ≡ true
unfolding locks
holds-locks t s item h = named_yes (write_item (row t.seats s)) _ _ item h.entry h.names

locks-holds : (t : Tables) (s item : ℕ) → s < seat_count → locks (row t.seats s) item ≡ true → Holds t s item
unfolding locks
locks-holds t s item l e = let q = named-has (write_item (row t.seats s)) _ _ item e in record { seat_in = l; entry = q.0; names = q.1 }

module _ (t : Tables) (z : Reached t) where
  k : InOrder t
  k = reached_in_order t z

  pub locked_is_held : LockedIsHeld t
  locked_is_held item l =
      let p : ℕ → Bool = λ s. locks (row t.seats s) item in
      let a : count p seat_count ≡ one (is_locked (get_or t.words item 0)) = k.held_once item l in (
        λ e. let e1 : one (is_locked (get_or t.words item 0)) ≡ 1 = ap one e in
            let q = count-some p seat_count (omega arith) in (q.0, locks-holds t q.0 item q.1 q.2),
        λ q. by (is_locked (get_or t.words item 0)) (λ e. e)
            (λ e. let e0 : one (is_locked (get_or t.words item 0)) ≡ 0 = ap one e in
            let h = q.1 in
            let b : one (p q.0) ≡ 1 = ap one (holds-locks t q.0 item h) in
            let d = count-has p q.0 seat_count h.seat_in in
            absurd (omega arith)),
      )

  pub one_holder : OneHolder t
  one_holder item j s l a b =
      let p : ℕ → Bool = λ s. locks (row t.seats s) item in
      let m : count p seat_count ≡ one (is_locked (get_or t.words item 0)) = k.held_once item l in
      let most : one (is_locked (get_or t.words item 0)) ≤ 1 = one_le (is_locked (get_or t.words item 0)) in
      let two : (i n : ℕ) → i < n → Holds t i item → Holds t n item → ⊥ =
      (λ i n x y c. let q = count-two p i n seat_count x c.seat_in (holds-locks t i item y) (holds-locks t n item c) in omega arith) in
      by (eqb j s) (λ e. eqb-true j s e) (λ e. let d : j ≢ s = eqb-false j s e in absurd (go two d (dec_lt j s)))
    where
      go : ((i n : ℕ) → i < n → Holds t i item → Holds t n item → ⊥) → j ≢ s → Dec (j < s) → ⊥
      go two d (yes x) = two j s x a b
      go two d (no x) = two s j (omega arith) b a

  -- THE TABLES
  pub always_sized : AlwaysSized t
  always_sized = k.sized

  pub never_damaged : NeverDamaged t
  never_damaged s l = undamaged (row t.seats s) (length t.words) (k.rows s l)

  -- ENTRIES
  used : (s : ℕ) → InUse t s → Used (length t.words) (row t.seats s)
  used s u = (k.rows s u.0).in_use u.1

  pub writes_ascend : WritesAscend t
  writes_ascend s i j u = (used s u).entries.ascending i j

  pub reads_distinct : ReadsDistinct t
  reads_distinct s i j u = (used s u).entries.distinct i j

  pub reads_in_order : ReadsInOrder t z
  reads_in_order s low =
      let g : List ℕ = row t.seats s in (
        reads_are t z s,
        λ i l. sym (seg_at (read_item g) (reads g) i l)
            ∙ ap (λ (l : List ℕ). get_or l i 0) (sym (seg-map first_item (read_at g) (reads g) 0))
            ∙ ap (λ (x : Seen). get_or (map first_item x.reads) i 0) (sym (seat_is t z s)),
      )

  pub reads_in_range : ReadsInRange t
  reads_in_range s i u = (used s u).entries.read_in_lem i

  pub writes_in_range : WritesInRange t
  writes_in_range s i u = (used s u).entries.write_in_lem i

  -- ZEROS
  pub unused_reads-zero : UnusedReadsZero t
  unused_reads-zero s f u = (used s u).entries.no_read f

  pub unused_writes-zero : UnusedWritesZero t
  unused_writes-zero s f u = (used s u).entries.no_write f

  pub untimed_zero : UntimedZero t
  untimed_zero s u = (used s u).head.untimed

  pub free_rows_zero : FreeRowsZero t
  free_rows_zero s f l e b = (k.rows s l).free e f b

  -- TIMES
  pub words_timely : WordsTimely t
  words_timely item l = (write_time_small (get_or t.words item 0), k.timely item l)

  pub kept_timely : KeptTimely t
  kept_timely s i u l = let e = (used s u).entries in let a = e.ordered i l in let b = e.kept_timely i l in (omega arith, b)

  pub commit_timely : CommitTimely t
  commit_timely s u = (used s u).head.timely

  pub kept_ordered : KeptOrdered t
  kept_ordered s i u = (used s u).entries.ordered i

  pub commit_not_below : CommitNotBelow t
  commit_not_below s i u p l = (used s u).not_below p i l
