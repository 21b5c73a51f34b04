-- A Setup that answers ready puts the tables in order, whatever they held.
use Prim.Native.Nat.{ℕ, ◌<◌}
use mathlib.Core.Path.{◌≡◌, sym, ap, ◌∙◌}
use mathlib.Core.Bool.{false}
use mathlib.Core.List.{List}
use native.Mathlib.Omega.{arith}
use lib.ListN.{length, get_or, replicate, length-replicate, get_or-replicate}
use Rattle.clock.specs.Word.{is_locked, fresh}
use Rattle.clock.proofs.Laws.{fresh_is}
use Rattle.rules.specs.Tests.{sum_to}
use Rattle.rules.specs.Layout.{owners, seat_count, plan_width, phase_at, row, share}
use Rattle.rules.specs.Tables.{Tables, tables}
use Rattle.rules.specs.Plan.{bad_plan, holds, held, claim, claims, laid}
use Rattle.rows.specs.Begin.{SetupTaken, length-laid, laid_at, laid-row}
use Rattle.reach.proofs.Count.{one, sum_same, count_none}
use Rattle.reach.proofs.InOrder.{Zero, locks, InOrder}
use Rattle.reach.proofs.Rows.{row_zero}
use Rattle.reach.proofs.Freed.{locks-free}
use Rattle.reach.proofs.WithinPlan.{planned, plan-same, held_by, held-free}

module _ (t : Tables) (start : ℕ) (plan : List ℕ) (b : SetupTaken t start plan) where
  abbrev seats : List ℕ
  seats = laid (replicate (length t.seats) 0) plan plan_width

  abbrev words : List ℕ
  words = replicate (length t.words) (fresh start)

  as_long : length {A = ℕ} (replicate (length t.seats) 0) ≡ length t.seats
  as_long = length-replicate {A = ℕ} (length t.seats) 0

  pub rows_zero : (s : ℕ) → Zero (row (laid (replicate (length t.seats) 0) plan plan_width) s)
  rows_zero s f l = laid-row (length t.seats) plan s f l

  none-held : (o : ℕ) → held (laid (replicate (length t.seats) 0) plan plan_width) o ≡ 0
  unfolding held holds held_by
  none-held o = count_none (holds seats o) seat_count (λ s h. held-free (row seats s) o (rows_zero s phase_at (omega arith)))

  word_at : (x : ℕ) → x < length t.words → get_or (replicate (length t.words) (fresh start)) x 0 ≡ fresh start
  word_at x l = get_or-replicate (length t.words) x (fresh start) 0 l

  pub plan-laid : (i : ℕ) → i < plan_width → get_or (laid (replicate (length t.seats) 0) plan plan_width) i 0 ≡ get_or plan i 0
  plan-laid i h =
      let lz = as_long in
      let n = b.sized.rows in
      laid_at (replicate (length t.seats) 0) plan plan_width i (omega arith) h

  good_plan : bad_plan (laid (replicate (length t.seats) 0) plan plan_width) ≡ false
  good_plan = plan-same plan seats plan-laid b.plan_good

  pub laid_in_order : InOrder (tables t.values (replicate (length t.words) (fresh start)) (laid (replicate (length t.seats) 0) plan plan_width))
  unfolding claims claim
  laid_in_order =
      let z = b.sized in
      let lw : length words ≡ length t.words = length-replicate (length t.words) (fresh start) in
      let lz = as_long in
      let now = fresh_is start b.start_in in
      record {
        sized = record {
          same = z.same ∙ sym lw;
          some = let q = z.some in omega arith;
          few = let q = z.few in omega arith;
          rows = length-laid (replicate (length t.seats) 0) plan plan_width ∙ lz ∙ z.rows;
        };
        rows = λ s l. row_zero (length words) (rows_zero s);
        within = record {
          plan = good_plan;
          limits = λ o l. let q = none-held o in omega arith;
          claims_fit =
              let q = (planned seats good_plan).total in
              let r : sum_to (claim seats) owners ≡ sum_to (share seats) owners =
              sum_same (share seats) (claim seats) owners (λ o l. let y = none-held o in omega arith) in
              omega arith;
        };
        held_once = λ x l.
            let e : is_locked (get_or words x 0) ≡ false = ap is_locked (word_at x (omega arith)) ∙ now.is_locked in
            count_none (λ s. locks (row seats s) x) seat_count (λ s _. locks-free (row seats s) (rows_zero s) x) ∙ sym (ap one e);
        timely = λ x l. rw (word_at x (omega arith), now.is_read) b.start_in;
      }
