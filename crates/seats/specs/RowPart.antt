-- A seat's row as a part of a table of any length: lent, changed at one place, freed.
use Rattle.std.specs.Prelude.{ℕ, zero, suc, ◌+◌, ◌-◌, ◌<◌, ◌≤◌, min, ◌≡◌, replicate, List, [], ◌∷◌, ◌++◌}
use Rattle.std.proofs.Common.{◌∙◌, zero-add, suc-add, add-one, drop_of_length-le, take-append-drop, length-take-le, take_all, append-nil, arith}
use Rattle.std.proofs.Math.Path.{refl, sym, ap}
use Rattle.std.proofs.Math.Decide.{dec_le}
use Rattle.std.proofs.lemmas.List.Edits.{fill_more}
use borrow.Rule.Slice.PartMut.{put_mid}
use Rattle.std.proofs.Math.ListN.{length, set, take, drop, length-drop}
use Rattle.std.proofs.Math.Seq.{set_out, take-nil}
use Rattle.rules.specs.Layout.{row_width, row_at, row, put}
use Rattle.rules.proofs.Limits.{length-cleared}
use Rattle.rules.specs.Plan.{cleared, freed}

-- a table of which the first i places are filled: one more, and the end
pub filled_more : (i v : ℕ) (d : List ℕ) {l : List ℕ} → l ≡ replicate i v ++ drop i d → i < length d → set l i v ≡ replicate (i + 1) v ++ drop (i + 1) d
filled_more i v d e h = ap (λ (t : List ℕ). set t i v) e ∙ fill_more i v d h

pub filled_end : (i v : ℕ) (d : List ℕ) {l : List ℕ} → l ≡ replicate i v ++ drop i d → length d ≤ i → i ≤ length d → l ≡ replicate (length d) v
filled_end i v d e a b =
    e ∙ ap (λ (t : List ℕ). replicate i v ++ t) (drop_of_length-le d a) ∙ append-nil _ ∙ ap (λ (k : ℕ). replicate k v) (let q : i ≡ length d = omega arith in q)

-- where a list ends, no more is taken of it
take_min : (w : ℕ) (l : List ℕ) → take (min w (length l)) l ≡ take w l
take_min w l = go (dec_le w (length l))
  where
    go : Dec (w ≤ length l) → take (min w (length l)) l ≡ take w l
    go (yes y) = ap (λ (k : ℕ). take k l) (let e : min w (length l) ≡ w = omega arith in e)
    go (no n) = take_all (min w (length l)) l (omega arith) ∙ sym (take_all w l (omega arith))

-- a store past the first of two lists
set_past : (xs ys : List ℕ) (n v : ℕ) → set (xs ++ ys) (length xs + n) v ≡ xs ++ set ys n v
set_past [] ys n v = rw zero-add
set_past (x ∷ xs) ys n v = rw suc-add (ap (λ (t : List ℕ). x ∷ t) (set_past xs ys n v))

-- a store in a row: past the table's end there is none, before it one
pub put_past : (l : List ℕ) (s f v : ℕ) → length l ≤ row_at s + f → put l s f v ≡ l
unfolding put
put_past l s f v h = set_out l (row_at s + f) v h

pub put_at : (l : List ℕ) (s f v : ℕ) {from : ℕ} {m : List ℕ} → from ≡ min (row_at s) (length l) → f < length l - from
    → m ≡ set l (from + f) v → m ≡ put l s f v
unfolding put
put_at l s f v b h e = e ∙ ap (λ (k : ℕ). set l (k + f) v) (let z : _ ≡ row_at s = omega arith in z)

module _ (l : List ℕ) (s : ℕ) where
  -- A ROW'S FIRST n NUMBERS ZERO: what lies before the row, n zeros, and what lies after them
  cleared_is : (n : ℕ) → row_at s + n ≤ length l → cleared l s n ≡ take (row_at s) l ++ (replicate n 0 ++ drop n (drop (row_at s) l))
  unfolding cleared put
  cleared_is zero h = sym (take-append-drop (row_at s) l)
  cleared_is (suc n) h =
      let a : ℕ = row_at s in
      let long : n < length (drop a l) = omega (arith, length-drop a l) in
      ap (λ (t : List ℕ). set t (a + n) 0) (cleared_is n (omega arith))
      ∙ ap (λ (k : ℕ). set (take a l ++ (replicate n 0 ++ drop n (drop a l))) (k + n) 0) (sym (length-take-le a l (omega arith)))
      ∙ set_past (take a l) (replicate n 0 ++ drop n (drop a l)) n 0
      ∙ ap (λ (t : List ℕ). take a l ++ t) (fill_more n 0 (drop a l) long ∙ rw add-one)

  cleared-none : cleared l s 0 ≡ l
  unfolding cleared
  cleared-none = refl

  -- what would lie past the table's end makes no difference
  cleared_past : (n : ℕ) → cleared l s n ≡ cleared l s (min n (length l - row_at s))
  unfolding cleared
  cleared_past zero = ap (cleared l s) (let e : 0 ≡ min 0 (length l - row_at s) = omega arith in e)
  cleared_past (suc n) = go (cleared_past n) (dec_le (length l) (row_at s + n))
    where
      go : cleared l s n ≡ cleared l s (min n (length l - row_at s)) → Dec (length l ≤ row_at s + n) →
          put (cleared l s n) s n 0 ≡ cleared l s (min (suc n) (length l - row_at s))
      go h (yes y) =
          put_past (cleared l s n) s n 0 (rw (length-cleared l s n) y)
          ∙ h
          ∙ ap (cleared l s) (let e : min n (length l - row_at s) ≡ min (suc n) (length l - row_at s) = omega arith in e)
      go h (no d) = ap (cleared l s) (let e : suc n ≡ min (suc n) (length l - row_at s) = omega arith in e)

  -- THE ROW'S PART: from where it begins to where it ends, or where the table ends
  module _ {from to : ℕ} (f : from ≡ min (row_at s) (length l)) (t : to ≡ min (from + row_width) (length l)) where
    pub row-part : take (to - from) (drop from l) ≡ row l s
    unfolding row
    row-part = go (dec_le (row_at s) (length l))
      where
        go : Dec (row_at s ≤ length l) → take (to - from) (drop from l) ≡ take row_width (drop (row_at s) l)
        go (yes y) =
            let e : from ≡ row_at s = omega arith in
            let k : to - from ≡ min row_width (length (drop (row_at s) l)) = omega (arith, length-drop (row_at s) l) in
            rw (k, e) (take_min row_width (drop (row_at s) l))
        go (no n) =
            ap (take (to - from)) (drop_of_length-le l {i = from} (omega arith))
            ∙ take-nil (to - from)
            ∙ sym (ap (take row_width) (drop_of_length-le l {i = row_at s} (omega arith)) ∙ take-nil row_width)

    -- filled with zeros and put back
    pub freed-part : {m : List ℕ} → m ≡ replicate (length (take (to - from) (drop from l))) 0 → put_mid from (to - from) l m ≡ freed l s
    freed-part {m} e = go (dec_le (row_at s) (length l))
      where
        fits : m ≡ replicate (to - from) 0
        fits = e ∙ ap (λ (k : ℕ). replicate k 0) (length-take-le (to - from) (drop from l) (omega (arith, length-drop from l)))

        go : Dec (row_at s ≤ length l) → put_mid from (to - from) l m ≡ freed l s
        go (yes y) =
            let b : from ≡ row_at s = omega arith in
            let n : min row_width (length l - row_at s) ≡ to - from = omega arith in
            rw (fits, cleared_past row_width, n, cleared_is (to - from) (omega arith), b)
        go (no d) =
            let n : to - from ≡ 0 = omega arith in
            let z : min row_width (length l - row_at s) ≡ 0 = omega arith in
            rw (fits, n, cleared_past row_width, z) (take-append-drop from l ∙ sym cleared-none)
