-- The laws of reading and changing a place of the seat table: the same place, another field, another row, the plan.
use Rattle.std.specs.Prelude.{ℕ, ◌+◌, ◌-◌, ◌*◌, ◌<◌, ◌≡◌, ◌≢◌, List, length, get_or, set, take, drop}
use Rattle.std.proofs.Common.{ap, ◌∙◌, arith, length-set, length-take, length-drop, get_or-set_same, get_or-set_other, get_or-take, get_or-drop, drop-set-lt}
use Rattle.std.proofs.Math.Decide.{dec_lt}
use Rattle.std.proofs.lemmas.List.{take-set-le, drop-set-add}
use Rattle.std.proofs.Math.Seq.{take-set-lt}
use Rattle.rules.specs.Layout.{seat_count, plan_width, row_width, row_at, seats_length, row, cell, put}

-- where a number of a row stands
pub cell_at : (l : List ℕ) (s f : ℕ) → f < row_width → cell l s f ≡ get_or l (row_at s + f) 0
unfolding row
cell_at l s f h = get_or-take row_width (drop (row_at s) l) f 0 h ∙ get_or-drop (row_at s) l f 0

pub length-row : (l : List ℕ) (s : ℕ) → length l ≡ seats_length → s < seat_count → length (row l s) ≡ row_width
unfolding row
length-row l s n h = let e = length-drop (row_at s) l in length-take row_width (drop (row_at s) l) ∙ omega arith

pub length-put : (l : List ℕ) (s f v : ℕ) → length (put l s f v) ≡ length l
unfolding put
length-put l s f v = simp length-set

-- a row after a change in it, and after a change in another
pub row_put : (l : List ℕ) (s f v : ℕ) → f < row_width → row (put l s f v) s ≡ set (row l s) f v
unfolding row put
row_put l s f v h = ap (take row_width) (drop-set-add (row_at s) l f v) ∙ take-set-lt row_width (drop (row_at s) l) f v h

pub row-put_other : (l : List ℕ) (s f v r : ℕ) → r ≢ s → f < row_width → row (put l s f v) r ≡ row l r
unfolding row put
row-put_other l s f v r d h = go (dec_lt r s)
  where
    go : Dec (r < s) → take row_width (drop (row_at r) (set l (row_at s + f) v)) ≡ take row_width (drop (row_at r) l)
    go (no n) = ap (take row_width) (drop-set-lt (row_at r) l (row_at s + f) v (omega arith))
    go (yes y) =
        let e : row_at s + f ≡ row_at r + (row_width * (s - r) + f) = omega arith in
        ap (λ (i : ℕ). take row_width (drop (row_at r) (set l i v))) e
        ∙ ap (take row_width) (drop-set-add (row_at r) l (row_width * (s - r) + f) v)
        ∙ take-set-le row_width (drop (row_at r) l) (row_width * (s - r) + f) v (omega arith)

-- the same place has the new number, another field of the row what it had
pub cell-put : (l : List ℕ) (s f v : ℕ) → length l ≡ seats_length → s < seat_count → f < row_width → cell (put l s f v) s f ≡ v
cell-put l s f v n h k = rw row_put (get_or-set_same (row l s) f v 0 (rw (length-row l s n h) k))

pub cell-put_field : (l : List ℕ) (s f v i : ℕ) → f < row_width → i ≢ f → cell (put l s f v) s i ≡ cell l s i
cell-put_field l s f v i k d = rw row_put (get_or-set_other (row l s) f i v 0 d)

-- the plan is as it was
pub put-plan : (l : List ℕ) (s f v i : ℕ) → i < plan_width → get_or (put l s f v) i 0 ≡ get_or l i 0
unfolding put
put-plan l s f v i h = get_or-set_other l (row_at s + f) i v 0 (omega arith)
