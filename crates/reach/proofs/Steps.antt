-- What one call does to one row and to the words, and that the tables stay in order after it.
use Prim.Native.Nat.{ℕ, ◌+◌, ◌-◌, ◌<◌, ◌≤◌}
use mathlib.Core.Path.{◌≡◌, refl, sym, ap, ◌∙◌, subst}
use mathlib.Core.Logic.{◌≢◌}
use mathlib.Core.Bool.{cond, not}
use mathlib.Core.List.{List}
use native.Mathlib.Omega.{arith}
use borrow.Author.Tests.{eqb-true, eqb-false, eq-eqb, ne_eqb}
use lib.Dec.{eqb}
use lib.ListN.{length, get_or, set, take}
use lib.Seq.{get_or-set_same, get_or-set_other}
use Rattle.clock.specs.Word.{top, read_time}
use Rattle.rules.specs.Layout.{seat_count, row, phase, owner, position, reads, writes, time}
use Rattle.rules.specs.Tables.{Tables, Outcome, answered}
use Rattle.rules.specs.Answers.{ready, refused, kind, number}
use Rattle.rules.specs.declared.Answer.{Answer}
use Rattle.rows.specs.Becomes.{Becomes, stays}
use Rattle.observer.specs.Observer.{Seen}
use Rattle.observer.proofs.Entries.{first_reads, write_entries}
use Rattle.observer.proofs.Shows.{Shows}
use Rattle.reach.specs.Life.{script}
use Rattle.reach.proofs.Tests.{by}
use Rattle.reach.proofs.Count.{one, count_change, count-has}
use Rattle.reach.proofs.InOrder.{Row, locks, steps_taken, WithinPlan, lock_count, InOrder}
use Rattle.reach.proofs.WithinPlan.{held_by}

-- a record's lock goes with the hold on it of the row that was g and is h
abbrev pub Follows : (words words' g h : List ℕ) → Type 0
Follows words words' g h =
    (item : ℕ) → item < length words → one (locks g item) ≤ lock_count words item →
    lock_count words' item + one (locks g item) ≡ lock_count words item + one (locks h item)

-- no read time comes to be above T
abbrev pub StaysTimely : (words words' : List ℕ) → Type 0
StaysTimely words words' = (item : ℕ) → item < length words → read_time (get_or words item 0) ≤ top → read_time (get_or words' item 0) ≤ top

-- a change of row s alone, to h, that keeps the tables in order
pub record Change (t t' : Tables) (s : ℕ) (h : List ℕ) : Type 0 where
  pub becomes : Becomes t.seats t'.seats s h
  pub values : length t'.values ≡ length t.values
  pub words : length t'.words ≡ length t.words
  pub in_order : Row (length t.words) h
  pub locked : Follows t.words t'.words (row t.seats s) h
  pub timely : StaysTimely t.words t'.words

-- what is seen of a seat, by its row
abbrev pub seen_of : List ℕ → Seen
seen_of g =
    record {
      is_open = not (eqb (phase g) 0);
      holder = owner g;
      advances = take (steps_taken g) (script (writes g) (reads g));
      is_sealed = eqb (phase g) 4;
      reads = first_reads g;
      writes = write_entries g;
      locked = locks g;
      key = time g;
      left = cond (eqb (phase g) 4) (writes g - position g) 0;
    }

pub row_shows : (g : List ℕ) → Shows g (seen_of g)
row_shows g = record { is_reads = refl; is_writes = refl }

-- it is x where it is so part by part
pub record SeenAs (g : List ℕ) (x : Seen) : Type 0 where
  pub is_open : not (eqb (phase g) 0) ≡ x.is_open
  pub is_holder : owner g ≡ x.holder
  pub is_advances : take (steps_taken g) (script (writes g) (reads g)) ≡ x.advances
  pub is_sealed : eqb (phase g) 4 ≡ x.is_sealed
  pub shows : Shows g x
  pub is_locked : (item : ℕ) → locks g item ≡ x.locked item
  pub is_key : time g ≡ x.key
  pub is_left : cond (eqb (phase g) 4) (writes g - position g) 0 ≡ x.left

pub seen_as : (g : List ℕ) (x : Seen) → SeenAs g x → seen_of g ≡ x
seen_as g x z = λ i.
    record {
      is_open = z.is_open i;
      holder = z.is_holder i;
      advances = z.is_advances i;
      is_sealed = z.is_sealed i;
      reads = z.shows.is_reads i;
      writes = z.shows.is_writes i;
      locked = λ item. z.is_locked item i;
      key = z.is_key i;
      left = z.is_left i;
    }

-- the stores to come, in phase 4 and before it
pub left_four : (g : List ℕ) → phase g ≡ 4 → cond (eqb (phase g) 4) (writes g - position g) 0 ≡ writes g - position g
left_four g e = rw (eq-eqb (phase g) 4 e) refl

pub left-none : (g : List ℕ) → phase g ≢ 4 → cond (eqb (phase g) 4) (writes g - position g) 0 ≡ 0
left-none g d = rw (ne_eqb (phase g) 4 d) refl

-- what an answer says of the row before and after; f is what the call's answer shows of the seat
pub record Tells (f : Seen → Answer → Seen) (g h : List ℕ) (a : Answer) : Type 0 where
  pub shown : seen_of h ≡ f (seen_of g) a
  pub fair : kind a ≡ refused → number a ≢ 3
  pub plain : kind a ≢ ready

pub record Step (t : Tables) (s : ℕ) (f : Seen → Answer → Seen) (o : Outcome) : Type 0 where
  pub next : List ℕ
  pub change : Change t o.tables s next
  pub mine : (w : ℕ) → one (held_by next w) ≤ one (held_by (row t.seats s) w)
  pub told : Tells f (row t.seats s) next o.answer

pub state_after : (t t' : Tables) (s : ℕ) (h : List ℕ) → s < seat_count → Change t t' s h → WithinPlan t'.seats → InOrder t → InOrder t'
state_after t t' s h low c b k =
    let el = c.words in
    let ev = c.values in
    let z = k.sized in
    record {
      sized = record {
        same = let q = z.same in omega arith;
        some = let q = z.some in omega arith;
        few = let q = z.few in omega arith;
        rows = c.becomes.size ∙ z.rows;
      };
      rows = λ r l. rw el
          (by (eqb r s)
          (λ e. rw (eqb-true r s e, c.becomes.own) c.in_order)
          (λ e. rw (c.becomes.others r (eqb-false r s e)) (k.rows r l)));
      within = b;
      held_once = λ item q.
          let l : item < length t.words = omega arith in
          let a = k.held_once item l in
          let m = count-has (λ r. locks (row t.seats r) item) s seat_count low in
          let d =
          count_change (λ r. locks (row t.seats r) item) (λ r. locks (row t'.seats r) item) s seat_count low
          (λ r _ y. ap (λ (g : List ℕ). locks g item) (c.becomes.others r y)) in
          let e = c.locked item l (omega arith) in
          let f : one (locks (row t'.seats s) item) ≡ one (locks h item) = ap (λ (g : List ℕ). one (locks g item)) c.becomes.own in
          omega arith;
      timely = λ item q. let l : item < length t.words = omega arith in c.timely item l (k.timely item l);
    }

-- an answer that leaves all tables
pub step_keep : (t : Tables) (s : ℕ) (f : Seen → Answer → Seen) (a : Answer) → Row (length t.words) (row t.seats s) →
    Tells f (row t.seats s) (row t.seats s) a → Step t s f (answered a t)
step_keep t s f a r q =
    record {
      next = row t.seats s;
      change = record { becomes = stays t.seats s; values = refl; words = refl; in_order = r; locked = λ item l e. refl; timely = λ item l e. e };
      mine = λ w. omega arith;
      told = q;
    }

-- of a list with one number changed: what holds of the new number and of the others holds of each
pub set_ind : (Q : ℕ → Type 0) (l : List ℕ) (x v i : ℕ) → x < length l → (x ≡ i → Q v) → (x ≢ i → Q (get_or l i 0)) → Q (get_or (set l x v) i 0)
set_ind Q l x v i h f g =
    by (eqb x i)
    (λ e. let q = eqb-true x i e in rw (← q) (subst Q (sym (get_or-set_same l x v 0 h)) (f q)))
    (λ e. let d : x ≢ i = eqb-false x i e in subst Q (sym (get_or-set_other l x i v 0 (λ z. d (sym z)))) (g d))
