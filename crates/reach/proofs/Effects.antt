-- What any call does to tables that are in order: it is refused, or it changes one row, or it begins anew.
use Prim.Native.Nat.{ℕ, ◌<◌}
use mathlib.Core.Path.{◌≡◌, refl, sym, ap, subst}
use mathlib.Core.Logic.{◌≢◌}
use mathlib.Core.Bool.{Bool, true, false, cond}
use mathlib.Core.List.{List, [], ◌∷◌}
use native.Mathlib.Omega.{arith}
use borrow.Author.Tests.{eqb-true, leb-false}
use lib.Dec.{ltb, eqb}
use lib.ListN.{length, get_or, length-replicate}
use Rattle.clock.specs.Word.{top, fresh}
use Rattle.rules.specs.Layout.{seat_count, plan_width, row, phase, working, storing, checking}
use Rattle.rules.specs.Tables.{Tables, Outcome, answered, unless}
use Rattle.rules.specs.Refusals.{unsized, misnamed, refusal, row_refusal, record_refusal, seat_refusal}
use Rattle.rules.specs.Plan.{bad_plan, setup_refusal, setup, open_refusal, free_seat, open_seat}
use Rattle.rules.specs.Work.{read_in, read, write_in, write}
use Rattle.rules.specs.Advance.{let_go, advance_in, advance, abandon}
use Rattle.rules.specs.Calls.{Call, Setup, Open, Read, Write, Advance, Abandon, step, run}
use Rattle.rules.specs.declared.Answer.{Answer}
use Rattle.rules.specs.declared.Answer.TheVariants.{Ready, Refused, Dropped}
use Rattle.rows.specs.Fine.{cond_ind, none_of, Fine, fine, item_in}
use Rattle.rows.specs.Begin.{setup_taken}
use Rattle.observer.specs.Observer.{Seen, Observer, given_to, on_advance, on_abandon, changed, observe}
use Rattle.reach.proofs.Tests.{by, not_first}
use Rattle.reach.proofs.InOrder.{Zero, Used, WithinPlan, InOrder}
use Rattle.reach.proofs.Rows.{undamaged}
use Rattle.reach.proofs.WithinPlan.{within_less}
use Rattle.reach.proofs.Steps.{Change, Tells, Step, state_after}
use Rattle.reach.proofs.Freed.{lets_go, drops}
use Rattle.reach.proofs.Moves.{advance_ok}
use Rattle.reach.proofs.Edits.{read_ok, write_ok}
use Rattle.reach.proofs.Opens.{not-unsized, open_fair, may_open, free-seat, open_change, open_tells, open_within}
use Rattle.reach.proofs.Begin as B

-- a call with its answer shows f of seat s, and nothing else
pub record ShowsAt (c : Call) (a : Answer) (s : ℕ) (f : Seen → Answer → Seen) : Type 0 where
  pub seats : (b : Observer) → (observe b c a).seats ≡ changed s (f (b.seats s) a) b.seats
  pub plan : (b : Observer) → (observe b c a).plan ≡ b.plan

pub data Effect (t : Tables) (c : Call) (o : Outcome) : Type 0 where
  refuses : (n : ℕ) → n ≢ 3 → o ≡ answered (Refused n) t → Effect t c o
  changes : (s : ℕ) → s < seat_count → (f : Seen → Answer → Seen) → ShowsAt c o.answer s f → (h : List ℕ) → Change t o.tables s h →
      WithinPlan o.tables.seats → Tells f (row t.seats s) h o.answer → Effect t c o
  starts : (start : ℕ) (plan : List ℕ) → c ≡ Setup start plan → o.answer ≡ Ready (length t.words) →
      length o.tables.words ≡ length t.words → InOrder o.tables →
      ((s : ℕ) → Zero (row o.tables.seats s)) → ((i : ℕ) → i < plan_width → get_or o.tables.seats i 0 ≡ get_or plan i 0) →
      Effect t c o

refused_or : (t : Tables) (c : Call) (why : ℕ) (o : Outcome) → why ≢ 3 → (why ≡ 0 → Effect t c o) → Effect t c (unless why t o)
refused_or t c why o d f = cond_ind (Effect t c) (eqb why 0) (λ e. f (eqb-true why 0 e)) (λ e. refuses why d refl)

-- A CALL THAT NAMES A SEAT
pub seat_in : (o s : ℕ) (unknown : Bool) → misnamed o s unknown ≡ false → s < seat_count
unfolding misnamed
seat_in o s unknown e = leb-false seat_count s (none_of _ e).1.0

pub refusal_fair : (t : Tables) → InOrder t → (o s : ℕ) (unknown : Bool) (last : ℕ) → refusal t o s unknown last ≢ 3
unfolding refusal row_refusal
refusal_fair t k o s unknown last =
    by (misnamed o s unknown)
    (λ e. rw (not-unsized t k, e) (omega arith))
    (λ e. rw (not-unsized t k, e, undamaged (row t.seats s) (length t.words) (k.rows s (seat_in o s unknown e))) (not_first 2 _))

module _ (t : Tables) (k : InOrder t) (o s last : ℕ) where
  pub used_of : Fine t o s last → Used (length t.words) (row t.seats s)
  used_of f = (k.rows s f.seat_in).in_use f.used

seat-effect : (t : Tables) (c : Call) (s : ℕ) (f : Seen → Answer → Seen) (o : Outcome) → InOrder t → s < seat_count → ShowsAt c o.answer s f →
    Step t s f o → Effect t c o
seat-effect t c s f o k low e p = changes s low f e p.next p.change (within_less p.change.becomes low p.mine k.within) p.told

-- SETUP, over any tables
never_three : (a b d : Bool) → ◌≢◌ {A = ℕ} (cond a 1 (cond b 2 (cond d 11 0))) 3
never_three true b d = omega arith
never_three false true d = omega arith
never_three false false true = omega arith
never_three false false false = omega arith

pub setup-effect : (t : Tables) (start : ℕ) (plan : List ℕ) → Effect t (Setup start plan) (setup t start plan)
unfolding setup
setup-effect t start plan =
    refused_or t (Setup start plan) (setup_refusal t start plan) _
    (unfold setup_refusal in never_three (unsized (length t.values) (length t.words) (length t.seats)) (ltb top start) (bad_plan plan))
    (λ e. let b = setup_taken t start plan e in
    starts start plan refl refl (length-replicate (length t.words) (fresh start))
    (B.laid_in_order t start plan b) (B.rows_zero t start plan b) (B.plan-laid t start plan b))

-- ANY CALL
pub effect_of : (t : Tables) → InOrder t → (c : Call) → Effect t c (step t c)
unfolding step read write advance abandon open_seat observe
effect_of t k (Setup start plan) = setup-effect t start plan
effect_of t k (Open o) =
    refused_or t (Open o) (open_refusal t o) _ (open_fair t k o)
    (λ e. let s : ℕ = free_seat t.seats in
    let f = free-seat t k o e in
    let r = may_open t k o e in
    changes s f.0 (λ x a. given_to o) (record { seats = λ b. refl; plan = λ b. refl }) _
    (open_change t k o s f.0 f.1 r.owner_in) (open_within t k o s f.0 f.1 r) (open_tells t k o s f.0 f.1))
effect_of t k (Read o s x) =
    refused_or t (Read o s x) (record_refusal t o s x working) (read_in t s x) (refusal_fair t k o s _ working)
    (λ e. let f = fine t o s _ working e in
    let d : phase (row t.seats s) ≢ 0 = f.used in
    let p = f.phase_in in
    seat-effect t (Read o s x) s _ (read_in t s x) k f.seat_in (record { seats = λ b. refl; plan = λ b. refl })
    (read_ok t s k (used_of t k o s working f) f.seat_in (omega arith) x (item_in t o s x working e)))
effect_of t k (Write o s x v) =
    refused_or t (Write o s x v) (record_refusal t o s x working) (write_in t s x v) (refusal_fair t k o s _ working)
    (λ e. let f = fine t o s _ working e in
    let d : phase (row t.seats s) ≢ 0 = f.used in
    let p = f.phase_in in
    seat-effect t (Write o s x v) s _ (write_in t s x v) k f.seat_in (record { seats = λ b. refl; plan = λ b. refl })
    (write_ok t s k (used_of t k o s working f) f.seat_in (omega arith) x v (item_in t o s x working e)))
effect_of t k (Advance o s) =
    refused_or t (Advance o s) (seat_refusal t o s storing) (advance_in t s) (refusal_fair t k o s false storing)
    (λ e. let f = fine t o s false storing e in
    seat-effect t (Advance o s) s on_advance (advance_in t s) k f.seat_in (record { seats = λ b. refl; plan = λ b. refl })
    (advance_ok t s k.sized.rows f.seat_in (used_of t k o s storing f)))
effect_of t k (Abandon o s) =
    refused_or t (Abandon o s) (seat_refusal t o s checking) (let_go t s (Dropped s)) (refusal_fair t k o s false checking)
    (λ e. let f = fine t o s false checking e in
    seat-effect t (Abandon o s) s on_abandon (let_go t s (Dropped s)) k f.seat_in (record { seats = λ b. refl; plan = λ b. refl })
    (lets_go t s on_abandon k.sized.rows f.seat_in (used_of t k o s checking f) (Dropped s) (drops s) f.phase_in))

-- and the tables are in order after it
pub after_effect : (t : Tables) (c : Call) (o : Outcome) → InOrder t → Effect t c o → InOrder o.tables
after_effect t c o k (refuses n d e) = subst (λ (q : Outcome). InOrder q.tables) (sym e) k
after_effect t c o k (changes s low f a h ch b told) = state_after t o.tables s h low ch b k
after_effect t c o k (starts start plan q e m b z p) = b

-- and there are as many records as before
pub as_many : (t : Tables) (c : Call) (o : Outcome) → Effect t c o → length o.tables.words ≡ length t.words
as_many t c o (refuses n d e) = ap (λ (z : Outcome). length z.tables.words) e
as_many t c o (changes s low f a h ch b told) = ch.words
as_many t c o (starts start plan q e m b z p) = m

pub in_order_run : (t : Tables) → InOrder t → (cs : List Call) → InOrder (run t cs)
unfolding run
in_order_run t k [] = k
in_order_run t k (c ∷ cs) = in_order_run (step t c).tables (after_effect t c (step t c) k (effect_of t k c)) cs
