-- A function changed at one place; what a refusal shows; and which call is a Setup.
use Prim.Native.Nat.{ℕ}
use mathlib.Core.Path.{◌≡◌, refl, sym, fun_ext}
use mathlib.Core.Logic.{◌≢◌}
use mathlib.Core.Bool.{true, true≢false}
use mathlib.Core.List.{List}
use borrow.Author.Tests.{eqb-true, eqb-false, eq-eqb, ne_eqb}
use lib.Dec.{eqb}
use Rattle.rules.specs.Calls.{Call, Setup, Open, Read, Write, Advance, Abandon}
use Rattle.rules.specs.Answers.{ready, kind}
use Rattle.rules.specs.declared.Answer.{Answer}
use Rattle.rules.specs.declared.Answer.TheVariants.{Refused}
use Rattle.rows.specs.Fine.{cond_ind, both}
use Rattle.observer.specs.Observer.{Seen, Observer, begun_with, on_read, on_write, on_advance, on_abandon, changed, seeing, observe}
use Rattle.observer.specs.Observer.{is_setup, begins, is_advance}

pub changed-same : {A : Type 0} (k : ℕ) (a : A) (f : ℕ → A) → changed k a f k ≡ a
unfolding changed
changed-same k a f = rw (eq-eqb k k refl)

pub changed_other : {A : Type 0} (k : ℕ) (a : A) (f : ℕ → A) (j : ℕ) → j ≢ k → changed k a f j ≡ f j
unfolding changed
changed_other k a f j n = rw (ne_eqb j k n)

pub changed_ind : {A : Type 0} (Q : ℕ → A → Type 0) (k : ℕ) (a : A) (f : ℕ → A) →
    Q k a → ((j : ℕ) → j ≢ k → Q j (f j)) → (j : ℕ) → Q j (changed k a f j)
unfolding changed
changed_ind Q k a f h g j = cond_ind (Q j) (eqb j k) (λ e. rw (eqb-true j k e) h) (λ e. g j (eqb-false j k e))

pub changed-none : {A : Type 0} (k : ℕ) (f : ℕ → A) → changed k (f k) f ≡ f
changed-none k f = fun_ext (changed_ind (λ j a. a ≡ f j) k (f k) f refl (λ j n. refl))

-- a seat seen as it was
pub seeing-same : (b : Observer) (s : ℕ) (x : Seen) → x ≡ b.seats s → seeing b s x ≡ b
seeing-same b s x e = rw (e, changed-none s b.seats) refl

-- A REFUSAL SHOWS NOTHING
pub refusal-shows : (b : Observer) (c : Call) (why : ℕ) → observe b c (Refused why) ≡ b
unfolding observe on_read on_write on_advance on_abandon
refusal-shows b (Setup start plan) why = refl
refusal-shows b (Open o) why = refl
refusal-shows b (Read o s item) why = seeing-same b s _ refl
refusal-shows b (Write o s item v) why = seeing-same b s _ refl
refusal-shows b (Advance o s) why = seeing-same b s _ refl
refusal-shows b (Abandon o s) why = seeing-same b s _ refl

-- A SETUP THAT WAS ANSWERED READY begins anew; it has a start and a plan
pub begins_anew : (b : Observer) (start : ℕ) (plan : List ℕ) (a : Answer) → kind a ≡ ready → observe b (Setup start plan) a ≡ begun_with plan
unfolding observe
begins_anew b start plan a e = rw (eq-eqb (kind a) ready e) refl

pub begins_is : (c : Call) (a : Answer) → begins c a ≡ true → (start : ℕ) × (plan : List ℕ) × (c ≡ Setup start plan) × (kind a ≡ ready)
unfolding is_setup
begins_is (Setup start plan) a e = (start, plan, refl, eqb-true _ _ e)
begins_is (Open o) a e = absurd (true≢false (sym e))
begins_is (Read o s item) a e = absurd (true≢false (sym e))
begins_is (Write o s item v) a e = absurd (true≢false (sym e))
begins_is (Advance o s) a e = absurd (true≢false (sym e))
begins_is (Abandon o s) a e = absurd (true≢false (sym e))

-- THE ADVANCE of a seat by an owner
pub its_advance : (o s : ℕ) (c : Call) → is_advance o s c ≡ true → c ≡ Advance o s
unfolding is_advance
its_advance o s (Setup start plan) e = absurd (true≢false (sym e))
its_advance o s (Open p) e = absurd (true≢false (sym e))
its_advance o s (Read p j item) e = absurd (true≢false (sym e))
its_advance o s (Write p j item v) e = absurd (true≢false (sym e))
its_advance o s (Advance p j) e = let q = both (eqb p o) (eqb j s) e in rw (eqb-true p o q.0, eqb-true j s q.1) refl
its_advance o s (Abandon p j) e = absurd (true≢false (sym e))
