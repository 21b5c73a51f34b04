-- What each answer leaves of the tables, over any tables: the theorems of specs/Left.
use Prim.Native.Nat.{ℕ, ◌≤◌}
use mathlib.Core.Path.{◌≡◌, refl}
use mathlib.Core.Bool.{false}
use mathlib.Core.List.{List, [], ◌∷◌}
use native.Mathlib.Omega.{arith}
use borrow.Author.Tests.{eqb-true, eqb-false}
use lib.Dec.{leb, ltb, eqb}
use lib.ListN.{length, get_or}
use Rattle.clock.specs.Word.{top, is_locked}
use Rattle.rules.specs.Layout.{most_reads, most_writes, row, phase, position, reads, writes, write_item, storing, checking, working}
use Rattle.rules.specs.Tables.{Tables, Outcome, answered, unless}
use Rattle.rules.specs.Answers.{dropped, refused, aborted, kind}
use Rattle.rules.specs.Refusals.{seat_refusal, record_refusal}
use Rattle.rules.specs.Plan.{setup_refusal, setup, open_refusal, open_seat}
use Rattle.rules.specs.Work.{read_of, write_of, first_read, read_in, read, write_in, write}
use Rattle.rules.specs.Advance.{held_locks, let_go, lock_step, commit_time, time_step, judged, passed}
use Rattle.rules.specs.Advance.{ruled, check_step, seal_step, store_step, passed_to}
use Rattle.rules.specs.Numbers.{word_locked, time_run_out}
use Rattle.rules.specs.Advance.{done_step, lock_phase, check_phase, store_phase, advance_in, advance, abandon}
use Rattle.rules.specs.Calls.{Call, Setup, Open, Read, Write, Advance, Abandon, step, history, told}
use Rattle.rules.specs.declared.Answer.{Answer}
use Rattle.rules.specs.declared.Answer.TheVariants.{Ready, Seat, Value, Noted, Locked, Timed, Checked, Sealed, Stored, Done, Dropped, Refused, Aborted}
use Rattle.rules.specs.Numbers.{abort_number}
use Rattle.rules.specs.declared.Verdict.{Verdict}
use Rattle.rules.specs.declared.Verdict.TheVariants.{Passes, Extends, Fails}
use Rattle.rows.specs.Fine.{cond_ind, Fine, fine, fine-row, locks_small, write_item_lem}
use Rattle.rows.specs.Changed.{free_at}
use Rattle.rows.specs.Becomes.{becomes_freed}
use Rattle.rows.specs.Released.{length-released}
use Rattle.reach.specs.Left.{EachAnswered, RefusalLeavesAll, LetGo, AbortLetsGo, AbandonLetsGo}
use Rattle.reach.proofs.Freed.{released_hit, released-miss}

pub each_answered : EachAnswered
unfolding history told
each_answered t [] = refl
each_answered t (c ∷ cs) = let e = each_answered (step t c).tables cs in omega arith

-- LETTING GO, in phases 1 to 3
leaves_let_go : (t : Tables) (o s last : ℕ) (a : Answer) → Fine t o s last → phase (row t.seats s) ≤ 3 → LetGo t (let_go t s a).tables s
unfolding let_go
leaves_let_go t o s last a f p =
    let g : List ℕ = row t.seats s in
    let n : ℕ = held_locks (row t.seats s) in
    let b = becomes_freed t.seats s (fine-row f) in
    let few = locks_small g (length t.words) f.sound f.used p in
    record {
      values_stay = refl;
      as_many = length-released t.words g n;
      held-cleared = λ i l. released_hit t.words g n i (write_item g i) (write_item_lem g (length t.words) f.sound i (omega arith)) l refl;
      others_stay = λ item h. released-miss t.words g n item h;
      row_zero = λ q l. rw b.own (free_at q);
      rows_stay = b.others;
      plan-stays = b.plan;
      as_long = b.size;
    }

-- what an outcome of call c leaves, where it is a refusal and where it is an abort
record Leaves (t : Tables) (c : Call) (z : Outcome) : Type 0 where
  all : kind z.answer ≡ refused → z.tables ≡ t
  gone : kind z.answer ≡ aborted → (o s : ℕ) × (c ≡ Advance o s) × LetGo t z.tables s

module _ (t : Tables) (c : Call) where
  -- an answer that is neither
  plain : (a : Answer) (u : Tables) → eqb (kind a) refused ≡ false → eqb (kind a) aborted ≡ false → Leaves t c (record { answer = a; tables = u })
  plain a u p q = record { all = λ e. absurd (eqb-false _ _ p e); gone = λ e. absurd (eqb-false _ _ q e) }

  refusing : (n : ℕ) → Leaves t c (answered (Refused n) t)
  refusing n = record { all = λ e. refl; gone = λ e. absurd (omega arith) }

  guarded : (why : ℕ) (o : Outcome) → (why ≡ 0 → Leaves t c o) → Leaves t c (unless why t o)
  guarded why o p = cond_ind (Leaves t c) (eqb why 0) (λ e. p (eqb-true why 0 e)) (λ _. refusing why)

  read_leaves : (s x : ℕ) → Leaves t c (read_in t s x)
  unfolding read_in first_read
  read_leaves s x =
      let g : List ℕ = row t.seats s in
      cond_ind (Leaves t c) (ltb (write_of g x) (writes g)) (λ _. plain (Value _) _ refl refl)
      (λ _. cond_ind (Leaves t c) (ltb (read_of g x) (reads g)) (λ _. plain (Value _) _ refl refl)
      (λ _. cond_ind (Leaves t c) (leb most_reads (reads g)) (λ _. refusing 8)
      (λ _. cond_ind (Leaves t c) (is_locked (get_or t.words x 0)) (λ _. refusing 10) (λ _. plain (Value _) _ refl refl))))

  write_leaves : (s x v : ℕ) → Leaves t c (write_in t s x v)
  unfolding write_in
  write_leaves s x v =
      let g : List ℕ = row t.seats s in
      cond_ind (Leaves t c) (ltb (write_of g x) (writes g)) (λ _. plain (Noted x) _ refl refl)
      (λ _. cond_ind (Leaves t c) (leb most_writes (writes g)) (λ _. refusing 9) (λ _. plain (Noted x) _ refl refl))

module _ (t : Tables) (o s : ℕ) (f : Fine t o s storing) where
  abbrev Left : Outcome → Type 0
  Left z = Leaves t (Advance o s) z

  aborting : (n : ℕ) → phase (row t.seats s) ≤ 3 → Leaves t (Advance o s) (let_go t s (Aborted n))
  unfolding let_go
  aborting n p = record { all = λ e. absurd (omega arith); gone = λ e. (o, s, refl, leaves_let_go t o s storing (Aborted n) f p) }

  lock_leaves : phase (row t.seats s) ≤ 2 → Leaves t (Advance o s) (lock_phase t s)
  unfolding lock_phase lock_step time_step
  lock_leaves p =
      let g : List ℕ = row t.seats s in
      cond_ind Left (ltb (position g) (writes g))
      (λ _. cond_ind Left (is_locked (get_or t.words (write_item g (position g)) 0))
      (λ _. aborting word_locked (omega arith)) (λ _. plain t _ (Locked _) _ refl refl))
      (λ _. cond_ind Left (ltb top (commit_time t.words g)) (λ _. aborting time_run_out (omega arith)) (λ _. plain t _ (Timed _) _ refl refl))

  ruled_leaves : phase (row t.seats s) ≡ 3 → (v : Verdict) → Leaves t (Advance o s) (ruled t s v)
  unfolding ruled passed passed_to
  ruled_leaves p Passes = plain t _ (Checked _) _ refl refl
  ruled_leaves p Extends = plain t _ (Checked _) _ refl refl
  ruled_leaves p (Fails why) = aborting (abort_number why) (omega arith)

  advance_leaves : Leaves t (Advance o s) (advance_in t s)
  unfolding advance_in check_phase check_step seal_step store_phase store_step done_step
  advance_leaves =
      let g : List ℕ = row t.seats s in
      cond_ind Left (eqb (phase g) 1) (λ e. lock_leaves (let q = eqb-true (phase g) 1 e in omega arith))
      (λ _. cond_ind Left (eqb (phase g) 2) (λ e. lock_leaves (let q = eqb-true (phase g) 2 e in omega arith))
      (λ _. cond_ind Left (eqb (phase g) 3)
      (λ e. cond_ind Left (ltb (position g) (reads g)) (λ _. ruled_leaves (eqb-true (phase g) 3 e) (judged t s))
      (λ _. plain t _ (Sealed _) _ refl refl))
      (λ _. cond_ind Left (eqb (phase g) 4)
      (λ _. cond_ind Left (ltb (position g) (writes g)) (λ _. plain t _ (Stored _) _ refl refl) (λ _. plain t _ (Done _) _ refl refl))
      (λ _. refusing t _ 3))))

leaves : (t : Tables) (c : Call) → Leaves t c (step t c)
unfolding step setup open_seat read write advance abandon let_go
leaves t (Setup start plan) = guarded t _ (setup_refusal t start plan) _ (λ _. plain t _ (Ready _) _ refl refl)
leaves t (Open o) = guarded t _ (open_refusal t o) _ (λ _. plain t _ (Seat _) _ refl refl)
leaves t (Read o s x) = guarded t _ (record_refusal t o s x working) _ (λ _. read_leaves t _ s x)
leaves t (Write o s x v) = guarded t _ (record_refusal t o s x working) _ (λ _. write_leaves t _ s x v)
leaves t (Advance o s) = guarded t _ (seat_refusal t o s storing) _ (λ e. advance_leaves t o s (fine t o s false storing e))
leaves t (Abandon o s) = guarded t _ (seat_refusal t o s checking) _ (λ _. plain t _ (Dropped s) _ refl refl)

-- A REFUSAL leaves every table as it was, and AN ABORT lets go
pub refusal_leaves_all : RefusalLeavesAll
refusal_leaves_all t c = (leaves t c).all

pub abort_lets_go : AbortLetsGo
abort_lets_go t c = (leaves t c).gone

pub abandon_lets_go : AbandonLetsGo
unfolding step abandon
abandon_lets_go t o s =
    cond_ind (λ (z : Outcome). kind z.answer ≡ dropped → LetGo t z.tables s) (eqb (seat_refusal t o s checking) 0)
    (λ q _. let f = fine t o s false checking (eqb-true _ _ q) in leaves_let_go t o s checking (Dropped s) f f.phase_in)
    (λ _ z. absurd (omega arith))
