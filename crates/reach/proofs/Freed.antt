-- A row that lets go, by an abort or by Abandon, and one that is Done: its locks are cleared and it is zero.
use Prim.Native.Nat.{ℕ, zero, suc, ◌<◌, ◌≤◌}
use mathlib.Core.Path.{◌≡◌, refl, sym, ap, ◌∙◌}
use mathlib.Core.Logic.{◌≢◌}
use mathlib.Core.Bool.{true, false}
use mathlib.Core.List.{List}
use native.Mathlib.Omega.{arith}
use borrow.Author.Tests.{eqb-true, eqb-false, eq-eqb, ne_eqb}
use lib.Dec.{eqb}
use lib.ListN.{length, get_or, take}
use lib.Seq.{get_or-set_same, get_or-set_other}
use Rattle.clock.specs.Word.{is_locked, with_lock}
use Rattle.clock.proofs.Laws.{with_lock_is, with_lock_twice}
use Rattle.rules.specs.Layout.{seat_count, seats_length, phase_at, owner_at, position_at, reads_at, writes_at, time_at, row, phase, reads, writes, write_item}
use Rattle.rules.specs.Places.{length-row}
use Rattle.rules.specs.Tables.{Tables, answered, with_seats, with_words}
use Rattle.rules.specs.Answers.{ready, refused, kind}
use Rattle.rules.specs.Plan.{freed}
use Rattle.rules.specs.Advance.{held_locks, released, let_go}
use Rattle.rules.specs.declared.Answer.{Answer}
use Rattle.rules.specs.declared.Answer.TheVariants.{Done, Dropped, Aborted}
use Rattle.rows.specs.Changed.{free_row, free_at}
use Rattle.rows.specs.Becomes.{becomes_freed}
use Rattle.rows.specs.Released.{length-released}
use Rattle.observer.specs.Observer.{Seen, unseen, on_advance, on_abandon}
use Rattle.observer.proofs.Segments.{seg}
use Rattle.observer.proofs.Entries.{read_at, write_at}
use Rattle.reach.specs.Invariants.{lock_from, lock_to}
use Rattle.reach.specs.Life.{script}
use Rattle.reach.proofs.Tests.{by}
use Rattle.reach.proofs.Count.{one, one_le}
use Rattle.reach.proofs.InOrder.{Zero, Used, locks, lock_count}
use Rattle.reach.proofs.Named.{named-has, named_none, locks-none}
use Rattle.reach.proofs.Rows.{row_zero, from_zero, to_early, to_held, steps_early}
use Rattle.reach.proofs.WithinPlan.{held-free}
use Rattle.reach.proofs.Steps.{seen_of, seen_as, left-none, Step}

-- THE WORDS with a row's first n locks cleared
cleared_twice : (words g : List ℕ) (n x : ℕ) → x < length words → with_lock false (get_or (released words g n) x 0) ≡ with_lock false (get_or words x 0)
unfolding released
cleared_twice words g zero x h = refl
cleared_twice words g (suc n) x h =
    let r : List ℕ = released words g n in
    let y : ℕ = write_item g n in
    let size = length-released words g n in
    by (eqb y x)
    (λ e. rw (eqb-true y x e, get_or-set_same r x (with_lock false (get_or r x 0)) 0 (omega arith), with_lock_twice) (cleared_twice words g n x h))
    (λ e. let d : y ≢ x = eqb-false y x e in rw (get_or-set_other r y x (with_lock false (get_or r y 0)) 0 (λ k. d (sym k))) (cleared_twice words g n x h))

pub released_hit : (words g : List ℕ) (n i x : ℕ) → x < length words → i < n → write_item g i ≡ x →
    get_or (released words g n) x 0 ≡ with_lock false (get_or words x 0)
unfolding released
released_hit words g zero i x h l e = absurd (omega arith)
released_hit words g (suc n) i x h l e =
    let r : List ℕ = released words g n in
    let y : ℕ = write_item g n in
    let size = length-released words g n in
    by (eqb y x)
    (λ z. rw (eqb-true y x z, get_or-set_same r x (with_lock false (get_or r x 0)) 0 (omega arith)) (cleared_twice words g n x h))
    (λ z. let d : y ≢ x = eqb-false y x z in
    let j : i ≢ n = (λ k. d (ap (λ (i : ℕ). write_item g i) (sym k) ∙ e)) in
    rw (get_or-set_other r y x (with_lock false (get_or r y 0)) 0 (λ k. d (sym k))) (released_hit words g n i x h (omega arith) e))

pub released-miss : (words g : List ℕ) (n x : ℕ) → ((i : ℕ) → i < n → write_item g i ≢ x) → get_or (released words g n) x 0 ≡ get_or words x 0
unfolding released
released-miss words g zero x h = refl
released-miss words g (suc n) x h =
    get_or-set_other (released words g n) (write_item g n) x (with_lock false (get_or (released words g n) (write_item g n) 0)) 0
    (λ k. h n (omega arith) (sym k))
    ∙ released-miss words g n x (λ i l. h i (omega arith))

-- AN ANSWER THAT ENDS a transaction
pub record Ends (f : Seen → Answer → Seen) (a : Answer) : Type 0 where
  pub ends : (x : Seen) → f x a ≡ unseen
  pub plain : kind a ≢ ready
  pub given : kind a ≢ refused

-- a free row: nothing told of it, nothing locked by it
module _ (g : List ℕ) (z : Zero g) where
  free-phase : phase g ≡ 0
  free-phase = z phase_at (omega arith)

  pub locks-free : (item : ℕ) → locks g item ≡ false
  locks-free item =
      let a = free-phase in
      let b = z position_at (omega arith) in
      let e = to_early g (omega arith) in
      locks-none g item (omega arith)

  pub seen-free : seen_of g ≡ unseen
  unfolding seg
  seen-free =
      let e = free-phase in
      let none : phase g ≢ 4 = omega arith in
      seen_as g unseen
      (record {
        is_open = rw (eq-eqb (phase g) 0 e) refl;
        is_holder = z owner_at (omega arith);
        is_advances = ap (λ (n : ℕ). take n (script (writes g) (reads g))) (steps_early g (omega arith) ∙ z position_at (omega arith));
        is_sealed = ne_eqb (phase g) 4 none;
        shows = record { is_reads = ap (seg (read_at g) 0) (z reads_at (omega arith)); is_writes = ap (seg (write_at g) 0) (z writes_at (omega arith)) };
        is_locked = locks-free;
        is_key = z time_at (omega arith);
        is_left = left-none g none;
      })

module _ (t : Tables) (s : ℕ) (f : Seen → Answer → Seen) (size : length t.seats ≡ seats_length) (small : s < seat_count)
    (u : Used (length t.words) (row t.seats s)) where
  -- freed, with words that are unlocked where the row held them, and else as they were
  pub free_step : (words : List ℕ) (a : Answer) → Ends f a → length words ≡ length t.words →
      ((x : ℕ) → x < length t.words → locks (row t.seats s) x ≡ true → get_or words x 0 ≡ with_lock false (get_or t.words x 0)) →
      ((x : ℕ) → x < length t.words → locks (row t.seats s) x ≡ false → get_or words x 0 ≡ get_or t.words x 0) →
      Step t s f (answered a (with_seats (with_words t words) (freed t.seats s)))
  free_step words a e as_many hit miss =
      let g : List ℕ = row t.seats s in
      let zero_row : Zero free_row = (λ i h. free_at i) in
      record {
        next = free_row;
        change = record {
          becomes = becomes_freed t.seats s (length-row t.seats s size small);
          values = refl;
          words = as_many;
          in_order = row_zero _ zero_row;
          locked = λ x h le.
              let q0 : one (locks free_row x) ≡ 0 = ap one (locks-free free_row zero_row x) in
              by (locks g x)
              (λ q. let q1 : one (locks (row t.seats s) x) ≡ 1 = ap one q in
              let r : lock_count words x ≡ 0 = ap one (ap is_locked (hit x h q) ∙ (with_lock_is false (get_or t.words x 0)).is_locked) in
              let o = one_le (is_locked (get_or t.words x 0)) in omega arith)
              (λ q. let q1 : one (locks (row t.seats s) x) ≡ 0 = ap one q in
              let r : lock_count words x ≡ lock_count t.words x = ap (λ (k : ℕ). one (is_locked k)) (miss x h q) in omega arith);
          timely = λ x h le.
              by (locks g x)
              (λ q. rw (hit x h q, (with_lock_is false (get_or t.words x 0)).is_read) le)
              (λ q. rw (miss x h q) le);
        };
        mine = λ w. rw (held-free free_row w (free_at phase_at)) (omega arith);
        told = record { shown = seen-free free_row zero_row ∙ sym (e.ends (seen_of g)); fair = λ q. absurd (e.given q); plain = e.plain };
      }

  -- an abort, or Abandon, before phase 4
  pub lets_go : (a : Answer) → Ends f a → phase (row t.seats s) ≤ 3 → Step t s f (let_go t s a)
  unfolding let_go locks
  lets_go a e p =
      let g : List ℕ = row t.seats s in
      let n : ℕ = held_locks (row t.seats s) in
      let lo = from_zero g (omega arith) in
      let hi = to_held g p in
      free_step (released t.words g n) a e (length-released t.words g n)
      (λ x h q. let k = named-has (write_item g) (lock_from g) (lock_to g) x q in
      let b = k.1.below in
      released_hit t.words g n k.0 x h (omega arith) k.1.named)
      (λ x h q. released-miss t.words g n x
      (λ i b z. named_none (write_item g) (lock_from g) (lock_to g) x i q (record { from = omega arith; below = omega arith; named = z })))

-- the three answers that end one
pub aborts : (n : ℕ) → Ends on_advance (Aborted n)
unfolding on_advance
aborts n = record { ends = λ x. refl; plain = λ e. omega arith; given = λ e. omega arith }

pub drops : (n : ℕ) → Ends on_abandon (Dropped n)
unfolding on_abandon
drops n = record { ends = λ x. refl; plain = λ e. omega arith; given = λ e. omega arith }

pub dones : (n : ℕ) → Ends on_advance (Done n)
unfolding on_advance
dones n = record { ends = λ x. refl; plain = λ e. omega arith; given = λ e. omega arith }
