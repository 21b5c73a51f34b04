-- A Setup that answers ready: what it has found, and what it leaves.
use Rattle.std.specs.Prelude.{ℕ, zero, suc, ◌+◌, ◌≤◌, ◌<◌, ◌≡◌, refl, false, List, eqb, ltb, length, get_or, replicate}
use Rattle.std.proofs.Common.{◌∙◌, ⊎_elim, arith, eq-or-lt_of_le, le_of_suc-le-suc, eqb-true, ltb-false, length-set, get_or-set_same, get_or-set_other}
use Rattle.clock.specs.Word.{top}
use Rattle.rules.specs.Layout.{plan_width, row_width, row_at, cell}
use Rattle.rules.specs.Places.{cell_at}
use Rattle.rules.specs.Tables.{Tables, Outcome}
use Rattle.rules.specs.Answers.{ready, kind}
use Rattle.rules.specs.Refusals.{unsized}
use Rattle.rules.specs.Plan.{bad_plan, setup_refusal, laid, setup}
use Rattle.rows.specs.Changed.{all_zero}
use Rattle.rows.specs.Fine.{cond_ind, Sized, sized_of}

-- what it has found
pub record SetupTaken (t : Tables) (start : ℕ) (plan : List ℕ) : Type 0 where
  pub sized : Sized t
  pub start_in : start ≤ top
  pub plan_good : bad_plan plan ≡ false

pub setup_taken : (t : Tables) (start : ℕ) (plan : List ℕ) → setup_refusal t start plan ≡ 0 → SetupTaken t start plan
unfolding setup_refusal
setup_taken t start plan =
    cond_ind Q (unsized (length t.values) (length t.words) (length t.seats)) (λ _ e. absurd (omega arith))
    (λ a. cond_ind Q (ltb top start) (λ _ e. absurd (omega arith))
    (λ b. cond_ind Q (bad_plan plan) (λ _ e. absurd (omega arith))
    (λ c _. record { sized = sized_of t a; start_in = ltb-false _ _ b; plan_good = c })))
  where
    Q : ℕ → Type 0
    Q n = n ≡ 0 → SetupTaken t start plan

-- it answers ready only where it is not refused
pub setup-ready : (t : Tables) (start : ℕ) (plan : List ℕ) → kind (setup t start plan).answer ≡ ready → setup_refusal t start plan ≡ 0
unfolding setup
setup-ready t start plan =
    cond_ind (λ (z : Outcome). kind z.answer ≡ ready → setup_refusal t start plan ≡ 0) (eqb (setup_refusal t start plan) 0) (λ a _. eqb-true _ _ a)
    (λ _ e. absurd (omega arith))

-- the plan is laid over the table's first places, and every row is zero
pub length-laid : (l plan : List ℕ) (n : ℕ) → length (laid l plan n) ≡ length l
unfolding laid
length-laid l plan zero = refl
length-laid l plan (suc n) = length-set (laid l plan n) n (get_or plan n 0) ∙ length-laid l plan n

pub laid_at : (l plan : List ℕ) (n i : ℕ) → n ≤ length l → i < n → get_or (laid l plan n) i 0 ≡ get_or plan i 0
unfolding laid
laid_at l plan zero i h a = absurd (omega arith)
laid_at l plan (suc n) i h a =
    ⊎_elim
    (λ (e : i ≡ n). rw e (get_or-set_same (laid l plan n) n (get_or plan n 0) 0 (let z = length-laid l plan n in omega arith)))
    (λ (b : i < n). get_or-set_other (laid l plan n) n i (get_or plan n 0) 0 (omega arith) ∙ laid_at l plan n i (omega arith) b)
    (eq-or-lt_of_le (le_of_suc-le-suc a))

pub laid-behind : (l plan : List ℕ) (n i : ℕ) → n ≤ i → get_or (laid l plan n) i 0 ≡ get_or l i 0
unfolding laid
laid-behind l plan zero i h = refl
laid-behind l plan (suc n) i h = get_or-set_other (laid l plan n) n i (get_or plan n 0) 0 (omega arith) ∙ laid-behind l plan n i (omega arith)

pub laid-row : (n : ℕ) (plan : List ℕ) (s f : ℕ) → f < row_width → cell (laid (replicate n 0) plan plan_width) s f ≡ 0
laid-row n plan s f h =
    cell_at (laid (replicate n 0) plan plan_width) s f h ∙ laid-behind (replicate n 0) plan plan_width (row_at s + f) (omega arith) ∙ all_zero n (row_at s + f)
