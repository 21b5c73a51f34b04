-- What the definitions come to at their limits: which refusal is given first, what a check does not look at, what U counts, and what a freed row holds.
use Rattle.std.specs.Prelude.{ℕ, zero, suc, ◌≤◌, ◌<◌, ◌≡◌, refl, Bool, true, false, cond, ◌||◌, List, leb, length, get_or}
use Rattle.std.proofs.Common.{sym, ap, ◌∙◌, true≢false, arith, le-leb, lt-ltb, ltb-false, eq-eqb}
use Rattle.std.proofs.lemmas.Bool.{lt-leb}
use Rattle.std.proofs.Math.Decide.{ℕ_discrete}
use Rattle.clock.specs.Word.{is_locked, write_time}
use Rattle.rules.specs.Layout.{owners, seat_count, most_reads, row_width, seats_length, row, cell, put, position, reads, writes, kept_write, share, limit}
use Rattle.rules.specs.Places.{length-put, cell-put, cell-put_field}
use Rattle.rules.specs.Tests.{any, sum_to, one_of}
use Rattle.rules.specs.Tables.{Tables, answered}
use Rattle.rules.specs.Refusals.{unsized}
use Rattle.rules.specs.Plan.{bad_share, bad_plan, held, claim, unsound, owner_refusal, plan_refusal, open_refusal, cleared, freed}
use Rattle.rules.specs.Work.{write_of, first_read}
use Rattle.rules.specs.Advance.{by_word, verdict, check_item, is_own, judged}
use Rattle.rules.specs.declared.Answer.TheVariants.{Refused}
use Rattle.rules.specs.declared.Verdict.TheVariants.{Passes}

-- reads full is 8, whether the record is locked or not; a locked record is 10 only where there is room
pub reads_full : (t : Tables) (s item : ℕ) → most_reads ≤ reads (row t.seats s) → first_read t s item ≡ answered (Refused 8) t
unfolding first_read
reads_full t s item h = simp (le-leb _ _ h)

pub item_locked : (t : Tables) (s item : ℕ) → reads (row t.seats s) < most_reads → is_locked (get_or t.words item 0) ≡ true →
    first_read t s item ≡ answered (Refused 10) t
unfolding first_read
item_locked t s item h l = simp (lt-leb _ _ h, l)

-- a read entry whose kept read time covers the commit time passes, whatever its word is
chosen : {A : Type 0} (b : Bool) (x y : A) → b ≡ true → cond b x y ≡ x
chosen true x y e = refl
chosen false x y e = absurd (true≢false (sym e))

pub covered_passes : (kept_write kept_read time word : ℕ) (own : Bool) → time ≤ kept_read → verdict kept_write kept_read time word own ≡ Passes
unfolding verdict
covered_passes kept_write kept_read time word own h = chosen _ _ _ (le-leb time kept_read h)

-- so does one of a record that the seat writes too, where the word has the kept write time: its own lock is not another's
either : {A : Type 0} (b : Bool) {x y : A} → y ≡ x → cond b x y ≡ x
either true e = refl
either false e = e

own_passes : (kept_write kept_read time word : ℕ) → write_time word ≡ kept_write → verdict kept_write kept_read time word true ≡ Passes
unfolding verdict by_word
own_passes kept_write kept_read time word e = either (leb time kept_read) (rw (eq-eqb _ _ e))

pub own_lock_passes : (t : Tables) (s : ℕ) →
    let g : List ℕ = row t.seats s in
    write_time (get_or t.words (check_item g) 0) ≡ kept_write g (position g) → write_of g (check_item g) < writes g → judged t s ≡ Passes
unfolding judged is_own
own_lock_passes t s e l =
    let g : List ℕ = row t.seats s in
    ap (verdict _ _ _ _) (lt-ltb (write_of g (check_item g)) (writes g) l) ∙ own_passes _ _ _ _ e

-- U counts the seats that an owner holds, and its share where it holds fewer
pub held-claim : (seats : List ℕ) (o : ℕ) → held seats o ≤ claim seats o
unfolding claim
held-claim seats o = omega arith

pub share-claim : (seats : List ℕ) (o : ℕ) → share seats o ≤ claim seats o
unfolding claim
share-claim seats o = omega arith

-- a plan that Setup takes keeps the shares within the seats
pub shares_fit : (plan : List ℕ) → bad_plan plan ≡ false → sum_to (share plan) owners ≤ seat_count
unfolding bad_plan one_of
shares_fit plan e = ltb-false seat_count (sum_to (share plan) owners) (second (any (bad_share plan) owners) _ e)
  where
    second : (a b : Bool) → a || b ≡ false → b ≡ false
    second true b q = absurd (true≢false q)
    second false b q = q

-- an owner at its limit is refused 6, where nothing of a lower number is due
pub at_limit : (t : Tables) (o : ℕ) →
    unsized (length t.values) (length t.words) (length t.seats) ≡ false → o < owners → unsound t.seats ≡ false →
    limit t.seats o ≤ held t.seats o → open_refusal t o ≡ 6
unfolding open_refusal plan_refusal owner_refusal
at_limit t o a b c h = simp (a, lt-leb owners o b, c, le-leb _ _ h)

-- a freed row is zero throughout
pub length-cleared : (l : List ℕ) (s m : ℕ) → length (cleared l s m) ≡ length l
unfolding cleared
length-cleared l s zero = refl
length-cleared l s (suc m) = length-put (cleared l s m) s m 0 ∙ length-cleared l s m

cleared-zero : (l : List ℕ) (s f m : ℕ) → length l ≡ seats_length → s < seat_count → f < m → m ≤ row_width → cell (cleared l s m) s f ≡ 0
unfolding cleared
cleared-zero l s f zero n h i j = absurd (omega arith)
cleared-zero l s f (suc m) n h i j = go (ℕ_discrete f m) (λ k. cleared-zero l s f m n h k (omega arith))
  where
    go : Dec (f ≡ m) → (f < m → cell (cleared l s m) s f ≡ 0) → cell (put (cleared l s m) s m 0) s f ≡ 0
    go (yes e) below = rw e (cell-put (cleared l s m) s m 0 (length-cleared l s m ∙ n) h (omega arith))
    go (no d) below = cell-put_field (cleared l s m) s m 0 f (omega arith) d ∙ below (omega arith)

pub row-freed : (l : List ℕ) (s f : ℕ) → length l ≡ seats_length → s < seat_count → f < row_width → cell (freed l s) s f ≡ 0
row-freed l s f n h k = cleared-zero l s f row_width n h k (omega arith)
