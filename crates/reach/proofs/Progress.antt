-- Progress: the theorems of specs/Progress.
use Prim.Native.Nat.{ℕ, ◌<◌}
use mathlib.Core.Path.{◌≡◌, refl, sym, ap, ◌∙◌, subst}
use mathlib.Core.Logic.{◌≢◌, ◌⊎◌, inl, inr}
use mathlib.Core.Bool.{Bool, true, false, cond, not}
use mathlib.Core.List.{List}
use native.Mathlib.Omega.{arith}
use borrow.Author.Tests.{eqb-false, eq-eqb, ne_eqb, ltb-true, ltb-false, lt-leb, not-true}
use lib.Dec.{ltb}
use Rattle.rules.specs.Layout.{owners, seat_count, row, phase, owner, position, writes, checking, storing}
use Rattle.rules.specs.Tables.{Tables, Outcome}
use Rattle.rules.specs.Refusals.{misnamed, seat_refusal}
use Rattle.rules.specs.Advance.{let_go, store_step, done_step, store_phase, advance_in, advance, abandon}
use Rattle.rules.specs.Answers.{stored, done, refused, kind}
use Rattle.rules.specs.Calls.{Advance, step}
use Rattle.rules.specs.declared.Answer.{Answer}
use Rattle.rules.specs.declared.Answer.TheVariants.{Stored, Done}
use Rattle.rows.specs.Fine.{cond_ind}
use Rattle.observer.specs.Observer.{Seen}
use Rattle.reach.specs.Reached.{Reached, records, seen}
use Rattle.reach.specs.Life.{advanced}
use Rattle.reach.specs.Refusals.{seat_due}
use Rattle.reach.specs.Progress.{Progress, ProgressOfEach}
use Rattle.reach.proofs.Tests.{all_none}
use Rattle.reach.proofs.InOrder.{InOrder}
use Rattle.reach.proofs.Script.{kind_given}
use Rattle.reach.proofs.Reached.{reached_in_order}
use Rattle.reach.proofs.Observed.{seat_is}
use Rattle.reach.proofs.Life.{advance-kind, sealed_four}
use Rattle.reach.proofs.Refusals.{refusal_is, late_leave, never_late}

-- an Advance that is not refused, and one of a sealed seat
fine-step : (t : Tables) (o s : ℕ) → seat_refusal t o s storing ≡ 0 → step t (Advance o s) ≡ advance_in t s
unfolding step advance
fine-step t o s e = rw e refl

store_step_lem : (t : Tables) (s : ℕ) → phase (row t.seats s) ≡ 4 → advance_in t s ≡ store_phase t s
unfolding advance_in
store_step_lem t s p =
    let g : List ℕ = row t.seats s in
    rw (ne_eqb (phase g) 1 (omega arith), ne_eqb (phase g) 2 (omega arith), ne_eqb (phase g) 3 (omega arith), eq-eqb (phase g) 4 p) refl

-- A SEAT BY ITS HOLDER
module _ (t : Tables) (z : Reached t) (s : ℕ) (low : s < seat_count) where
  abbrev g : List ℕ
  g = row t.seats s

  k : InOrder t
  k = reached_in_order t z

  pub holder_is : ((seen z).seats s).holder ≡ owner (row t.seats s)
  holder_is = ap (λ (x : Seen). x.holder) (seat_is t z s)

  open_used : ((seen z).seats s).is_open ≡ true → phase (row t.seats s) ≢ 0
  open_used h = eqb-false (phase g) 0 (not-true _ (ap (λ (x : Seen). x.is_open) (sym (seat_is t z s)) ∙ h))

  -- it is refused for nothing but coming too late
  holder_due : (late : Bool) → ((seen z).seats s).is_open ≡ true → seat_due (records z) (seen z) ((seen z).seats s).holder s false late ≡ cond late 5 0
  unfolding seat_due misnamed
  holder_due late h =
      let own = ((k.rows s low).in_use (open_used h)).head.owner_in in
      let named : misnamed ((seen z).seats s).holder s false ≡ false =
      all_none _ (lt-leb owners ((seen z).seats s).holder (rw holder_is own), (lt-leb seat_count s low, (refl, tt))) in
      rw (named, h, eq-eqb ((seen z).seats s).holder ((seen z).seats s).holder refl) refl

  advance-fine : ((seen z).seats s).is_open ≡ true → seat_refusal t ((seen z).seats s).holder s storing ≡ 0
  advance-fine h = refusal_is t z ((seen z).seats s).holder s false storing false (never_late t z s) ∙ holder_due false h

  abandon-fine : ((seen z).seats s).is_open ≡ true → ((seen z).seats s).is_sealed ≡ false → seat_refusal t ((seen z).seats s).holder s checking ≡ 0
  abandon-fine h n = refusal_is t z ((seen z).seats s).holder s false checking false (λ l. late_leave t z s l ∙ n) ∙ holder_due false h

  -- the two answers to an Advance of a sealed seat by its holder
  pub data Goes (a : Answer) : Type 0 where
    stores : (x : ℕ) → position (row t.seats s) < writes (row t.seats s) → a ≡ Stored x → Goes a
    ends : (x : ℕ) → position (row t.seats s) ≡ writes (row t.seats s) → a ≡ Done x → Goes a

  sealed_open : ((seen z).seats s).is_sealed ≡ true → ((seen z).seats s).is_open ≡ true
  sealed_open h =
      let p = sealed_four t z s low h in
      ap (λ (x : Seen). x.is_open) (seat_is t z s) ∙ ap not (ne_eqb (phase g) 0 (omega arith))

  pub goes : ((seen z).seats s).is_sealed ≡ true → Goes (advanced t ((seen z).seats s).holder s)
  unfolding store_phase store_step done_step
  goes h =
      let p = sealed_four t z s low h in
      let f = ((k.rows s low).in_use (omega arith)).head.storing p in
      subst (λ (x : Outcome). Goes x.answer) (sym (fine-step t ((seen z).seats s).holder s (advance-fine (sealed_open h)) ∙ store_step_lem t s p))
      (cond_ind (λ (o : Outcome). Goes o.answer) (ltb (position g) (writes g))
      (λ e. stores _ (ltb-true _ _ e) refl)
      (λ e. let l = ltb-false (position g) (writes g) e in ends _ (omega arith) refl))

  goes_kind : {a : Answer} → Goes a → (kind a ≡ stored) ⊎ (kind a ≡ done)
  goes_kind (stores x l e) = inl (ap kind e)
  goes_kind (ends x l e) = inr (ap kind e)

  pub progress : Progress t s ((seen z).seats s)
  unfolding step abandon let_go
  progress =
      let o : ℕ = ((seen z).seats s).holder in
      record {
        never_refused = λ h.
            subst (λ (x : Outcome). kind x.answer ≢ refused) (sym (fine-step t o s (advance-fine h)))
            (kind_given (advance-kind t s ((k.rows s low).in_use (open_used h))));
        goes_on = λ h. goes_kind (goes h);
        may_leave = λ h n. rw (abandon-fine h n) refl;
      }

pub progress_of_each : (t : Tables) → ProgressOfEach t
progress_of_each t z s low = progress t z s low
