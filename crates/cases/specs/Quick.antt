-- Worked cases compute quicker where held seats are counted in one walk over the rows. Here is that count, and a proof that Open, and so any
-- list of calls, comes to the same with it. No promise cites it.
use Rattle.std.specs.Prelude.{ℕ, zero, suc, ◌+◌, max, ◌≡◌, refl, Bool, cond, not, ◌&&◌, List, [], ◌∷◌, eqb, ltb, leb, length, take, drop}
use Rattle.std.proofs.Common.{sym, ap, ◌∙◌, arith, zero-add, drop-drop}
use Rattle.rules.specs.Tests.{any, count, sum_to, one_of}
use Rattle.rules.specs.Layout.{owners, seat_count, free, row_width, row_at, row, phase, owner, share, limit}
use Rattle.rules.specs.Tables.{Tables, Outcome, with_seats, answered, unless}
use Rattle.rules.specs.Refusals.{unsized}
use Rattle.rules.specs.Plan.{setup, bad_plan, bad_row, holds, held, claim, claims, over_limit, unsound, crowded, owner_refusal, plan_refusal, open_refusal}
use Rattle.rules.specs.Plan.{free_seat, opened, open_seat}
use Rattle.rules.specs.Work.{read, write}
use Rattle.rules.specs.Advance.{advance, abandon}
use Rattle.rules.specs.Calls.{Call, Setup, Open, Read, Write, Advance, Abandon, step, run, Event, history}
use Rattle.rules.specs.declared.Answer.TheVariants.{Seat}

-- how many of the first n rows of l pass, from the front
unfoldable pub counted : (List ℕ → Bool) → ℕ → List ℕ → ℕ
counted p zero l = 0
counted p (suc n) l = cond (p (take row_width l)) 1 0 + counted p n (drop row_width l)

count-front : (q : ℕ → Bool) (n : ℕ) → count q (suc n) ≡ cond (q 0) 1 0 + count (λ s. q (suc s)) n
unfolding count
count-front q zero = omega arith
count-front q (suc n) = let e = count-front q n in omega arith

counted_is : (p : List ℕ → Bool) (seats : List ℕ) (n k : ℕ) → counted p n (drop (row_at k) seats) ≡ count (λ s. p (row seats (k + s))) n
unfolding counted count row
counted_is p seats zero k = refl
counted_is p seats (suc n) k =
    let next : row_at k + row_width ≡ row_at (suc k) = omega arith in
    let here : k ≡ k + 0 = omega arith in
    let at : (s : ℕ) → p (row seats (suc k + s)) ≡ p (row seats (k + suc s)) =
    λ s. let e : suc k + s ≡ k + suc s = omega arith in ap (λ (i : ℕ). p (row seats i)) e in
    ap (λ (m : ℕ). cond (p (row seats k)) 1 0 + m)
    (ap (counted p n) (drop-drop row_width (row_at k) seats ∙ ap (λ (i : ℕ). drop i seats) next)
    ∙ counted_is p seats n (suc k)
    ∙ ap (λ (q : ℕ → Bool). count q n) (λ i s. at s i))
    ∙ ap (λ (i : ℕ). cond (p (row seats i)) 1 0 + count (λ s. p (row seats (k + suc s))) n) here
    ∙ sym (count-front (λ s. p (row seats (k + s))) n)

abbrev is_held_by : ℕ → List ℕ → Bool
is_held_by o g = not (eqb (phase g) free) && eqb (owner g) o

unfoldable pub quick_held : List ℕ → ℕ → ℕ
quick_held seats o = counted (is_held_by o) seat_count (drop (row_at 0) seats)

quick_held_lem : (seats : List ℕ) (o : ℕ) → held seats o ≡ quick_held seats o
unfolding held holds quick_held
quick_held_lem seats o = sym (simp zero-add at (counted_is (is_held_by o) seats seat_count 0))

-- Open's refusal, by a count of held seats
abbrev claims_by : (ℕ → ℕ) → List ℕ → ℕ
claims_by h seats = sum_to (λ o. max (h o) (share seats o)) owners

unfoldable pub refusal_by : (ℕ → ℕ) → Tables → ℕ → ℕ
refusal_by h t o =
    let seats : List ℕ = t.seats in
    let unsound_by : Bool =
    one_of (bad_plan seats ∷ any (bad_row seats) seat_count ∷ any (λ i. ltb (limit seats i) (h i)) owners ∷ ltb seat_count (claims_by h seats) ∷ []) in
    cond (unsized (length t.values) (length t.words) (length seats)) 1
    (cond (leb owners o) 2
    (cond unsound_by 3
    (cond (leb (limit seats o) (h o)) 6
    (cond (leb (share seats o) (h o) && eqb (claims_by h seats) seat_count) 7 0))))

refusal-by : (t : Tables) (o : ℕ) → open_refusal t o ≡ refusal_by (held t.seats) t o
unfolding open_refusal plan_refusal owner_refusal refusal_by unsound over_limit crowded claims claim
refusal-by t o = refl

quick_refusal : (t : Tables) (o : ℕ) → open_refusal t o ≡ refusal_by (quick_held t.seats) t o
quick_refusal t o = refusal-by t o ∙ ap (λ (h : ℕ → ℕ). refusal_by h t o) (λ i n. quick_held_lem t.seats n i)

unfoldable pub quick_open : Tables → ℕ → Outcome
quick_open t o =
    unless (refusal_by (quick_held t.seats) t o) t
    (let s : ℕ = free_seat t.seats in
    answered (Seat s) (with_seats t (opened t.seats s o)))

quick_open_lem : (t : Tables) (o : ℕ) → open_seat t o ≡ quick_open t o
unfolding open_seat quick_open
quick_open_lem t o = rw quick_refusal

-- a call, and a list of calls
unfoldable pub quick_step : Tables → Call → Outcome
quick_step t (Setup start plan) = setup t start plan
quick_step t (Open o) = quick_open t o
quick_step t (Read o s item) = read t o s item
quick_step t (Write o s item value) = write t o s item value
quick_step t (Advance o s) = advance t o s
quick_step t (Abandon o s) = abandon t o s

pub quick_step_lem : (t : Tables) (c : Call) → step t c ≡ quick_step t c
unfolding step quick_step
quick_step_lem t (Setup start plan) = refl
quick_step_lem t (Open o) = quick_open_lem t o
quick_step_lem t (Read o s item) = refl
quick_step_lem t (Write o s item value) = refl
quick_step_lem t (Advance o s) = refl
quick_step_lem t (Abandon o s) = refl

unfoldable pub quick_run : Tables → List Call → Tables
quick_run t [] = t
quick_run t (c ∷ cs) = quick_run (quick_step t c).tables cs

pub quick_run_lem : (t : Tables) (cs : List Call) → run t cs ≡ quick_run t cs
unfolding run quick_run
quick_run_lem t [] = refl
quick_run_lem t (c ∷ cs) = rw (quick_step_lem t c) (quick_run_lem (quick_step t c).tables cs)

unfoldable pub quick_history : Tables → List Call → List Event
quick_history t [] = []
quick_history t (c ∷ cs) = record { call = c; answer = (quick_step t c).answer } ∷ quick_history (quick_step t c).tables cs

pub quick_history_lem : (t : Tables) (cs : List Call) → history t cs ≡ quick_history t cs
unfolding history quick_history
quick_history_lem t [] = refl
quick_history_lem t (c ∷ cs) =
    rw (quick_step_lem t c)
    (ap (λ (es : List Event). record { call = c; answer = (quick_step t c).answer } ∷ es) (quick_history_lem (quick_step t c).tables cs))
