-- A seat table after a change of one row: row s is now g, every other row and the plan are as they were, and so is the length.
-- Each change of the rules is one of these. What its row g then holds, number by number, is in Changed.
use Rattle.std.specs.Prelude.{ℕ, zero, suc, ◌+◌, ◌-◌, ◌≤◌, ◌<◌, ◌≡◌, refl, ◌≢◌, List, [], length, get_or, set}
use Rattle.std.proofs.Common.{ap, ◌∙◌, arith, drop_of_length-le}
use Rattle.std.proofs.Math.Seq.{take-nil}
use Rattle.clock.specs.Word.{write_time, read_time}
use Rattle.rules.specs.Layout.{seat_count, plan_width, row_width, row_at, seats_length, write_width, phase_at, owner_at, position_at, reads_at}
use Rattle.rules.specs.Layout.{writes_at, read_item_at, read_value_at, kept_write_at, kept_read_at, write_item_at, write_value_at, row, cell, put, reads}
use Rattle.rules.specs.Layout.{writes}
use Rattle.rules.specs.Places.{length-put, row_put, row-put_other, put-plan}
use Rattle.rules.specs.Plan.{cleared, freed, opened}
use Rattle.rules.specs.Work.{read_noted, slid, placed}
use Rattle.rules.specs.Advance.{moved}
use Rattle.rows.specs.Changed.{zeroed, zeroed-free, free_row, opened_row, moved_row, noted_row, slid_row, placed_row}

pub record Becomes (l l' : List ℕ) (s : ℕ) (g : List ℕ) : Type 0 where
  pub own : row l' s ≡ g
  pub others : (j : ℕ) → j ≢ s → row l' j ≡ row l j
  pub plan : (i : ℕ) → i < plan_width → get_or l' i 0 ≡ get_or l i 0
  pub size : length l' ≡ length l

-- no change, one number more, one change after another
pub stays : (l : List ℕ) (s : ℕ) → Becomes l l s (row l s)
stays l s = record { own = refl; others = λ j d. refl; plan = λ i h. refl; size = refl }

pub then-put : {l l' : List ℕ} {s : ℕ} {g : List ℕ} (f v : ℕ) → f < row_width → Becomes l l' s g → Becomes l (put l' s f v) s (set g f v)
then-put {l} {l'} {s} {g} f v h b =
    record {
      own = row_put l' s f v h ∙ ap (λ (z : List ℕ). set z f v) b.own;
      others = λ j d. row-put_other l' s f v j d h ∙ b.others j d;
      plan = λ i m. put-plan l' s f v i m ∙ b.plan i m;
      size = length-put l' s f v ∙ b.size;
    }

pub then : {l l' l'' : List ℕ} {s : ℕ} {g h : List ℕ} → Becomes l l' s g → Becomes l' l'' s h → Becomes l l'' s h
then a b =
    record {
      own = b.own;
      others = λ j d. b.others j d ∙ a.others j d;
      plan = λ i m. b.plan i m ∙ a.plan i m;
      size = b.size ∙ a.size;
    }

-- PUT, MOVED
pub becomes_put : (l : List ℕ) (s f v : ℕ) → f < row_width → Becomes l (put l s f v) s (set (row l s) f v)
becomes_put l s f v h = then-put f v h (stays l s)

pub becomes_moved : (l : List ℕ) (s ph p : ℕ) → Becomes l (moved l s ph p) s (moved_row (row l s) ph p)
unfolding moved
becomes_moved l s ph p = then-put position_at p (omega arith) (becomes_put l s phase_at ph (omega arith))

-- FREED: zero throughout; OPENED: zero but for phase and owner
becomes_cleared : (l : List ℕ) (s n : ℕ) → n ≤ row_width → Becomes l (cleared l s n) s (zeroed (row l s) n)
unfolding cleared zeroed
becomes_cleared l s zero h = stays l s
becomes_cleared l s (suc n) h = then-put n 0 (omega arith) (becomes_cleared l s n (omega arith))

pub becomes_freed : (l : List ℕ) (s : ℕ) → length (row l s) ≡ row_width → Becomes l (freed l s) s free_row
becomes_freed l s n = rw (zeroed-free (row l s) n) at (becomes_cleared l s row_width (omega arith))

pub becomes_opened : (l : List ℕ) (s o : ℕ) → length (row l s) ≡ row_width → Becomes l (opened l s o) s (opened_row o)
unfolding opened
becomes_opened l s o n = then-put owner_at o (omega arith) (then-put phase_at 1 (omega arith) (becomes_freed l s n))

-- a new READ ENTRY, while there is room for one
pub becomes_noted : (l : List ℕ) (s item value word : ℕ) → read_item_at (reads (row l s) + 1) ≤ row_width →
    Becomes l (read_noted l s item value word) s (noted_row (row l s) item value (write_time word) (read_time word))
unfolding read_noted
becomes_noted l s item value word h =
    let n : ℕ = reads (row l s) in
    then-put reads_at (n + 1) (omega arith)
    (then-put (kept_read_at n) (read_time word) (omega arith)
    (then-put (kept_write_at n) (write_time word) (omega arith)
    (then-put (read_value_at n) value (omega arith)
    (becomes_put l s (read_item_at n) item (omega arith)))))

-- a new WRITE ENTRY: a slide of numbers, then the entry
pub becomes_slid : (l : List ℕ) (s e w n : ℕ) → e + w ≤ row_width → n ≤ e → Becomes l (slid l s e w n) s (slid_row (row l s) e w n)
unfolding slid slid_row
becomes_slid l s e w zero h m = stays l s
becomes_slid l s e w (suc n) h m = then-put (e - suc n + w) (cell l s (e - suc n)) (omega arith) (becomes_slid l s e w n h (omega arith))

pub becomes_placed : (l : List ℕ) (s i item value : ℕ) → i ≤ writes (row l s) → write_item_at (writes (row l s) + 1) ≤ row_width →
    Becomes l (placed l s i item value) s (placed_row (row l s) i item value)
unfolding placed placed_row
becomes_placed l s i item value low h =
    let n : ℕ = writes (row l s) in
    then-put writes_at (n + 1) (omega arith)
    (then-put (write_value_at i) value (omega arith)
    (then-put (write_item_at i) item (omega arith)
    (becomes_slid l s (write_item_at n) write_width (write_item_at n - write_item_at i) (omega arith) (omega arith))))

-- a row past the last is empty, hence free
pub row_past : (l : List ℕ) (s : ℕ) → length l ≡ seats_length → seat_count ≤ s → row l s ≡ []
unfolding row
row_past l s n h = rw (drop_of_length-le l {i = row_at s} (omega arith)) (take-nil row_width)
