-- The protocol's state after Setup, and the run's values where no store is due.
use Prim.Native.Nat.{ℕ, ◌≤◌, max}
use mathlib.Core.Path.{◌≡◌, refl, sym, ◌∙◌}
use mathlib.Core.Logic.{⊎_elim}
use mathlib.Core.Option.{Option, none, some}
use mathlib.Core.List.Memᴰ.{cases_cons as uncons}
use mathlib.Core.List.Memᴰ.{not-nil}
use mathlib.Core.List.{List, [], ◌∷◌, Memᴰ as In}
use native.Mathlib.Omega.{arith}
use Rattle.observer.specs.Observer.{Transaction}
use Rattle.serial.specs.Statement.{Values, values_after_all, Right}
use Rattle.serial.specs.Order.{Sorted}
use Rattle.serial.proofs.Timeline.{run_to, run_to_all}
use Rattle.serial.proofs.Protocol.{Due, State, free, StoreLeft, none-some, val, Inv}
use Rattle.serial.proofs.Growth.{due_left}

-- nothing sealed, every version from the start on, every seat free
abbrev pub begin : ℕ → Values → State
begin start opening =
    record {
      order = [];
      version = λ item. record { value = opening item; wrote = start; from = start; up_to = start; holder = none; due = none };
      seat = λ s. free;
    }

pub begin_inv : (start : ℕ) (opening : Values) → Inv opening (begin start opening)
unfolding Sorted Right run_to
begin_inv start opening =
    record {
      sorted = tt;
      right = tt;
      versions = λ item. record {
        range = omega arith;
        wrote_low = omega arith;
        due_below = λ d e. absurd (none-some {A = Due} none d refl e);
        due_held = λ p. refl;
        up_to_due = λ u p q. refl;
        from_due = λ u p. refl;
        readers = λ T i. absurd (not-nil i);
        writers = λ T i. absurd (not-nil i);
      };
      seats = λ s. tt;
      by-time = record { seats = λ s. tt; sealed = λ T i. absurd (not-nil i) };
      holders = λ item s e. absurd (none-some {A = ℕ} none s refl e);
    }

-- a key that none is later than
last : List Transaction → ℕ
last [] = 0
last (T ∷ S) = max T.key (last S)

last_is : (S : List Transaction) (U : Transaction) → In U S → U.key ≤ last S
unfolding last
last_is [] U i = absurd (not-nil i)
last_is (T ∷ S) U i =
    ⊎_elim (λ (e : U ≡ T). rw e (omega arith)) (λ (j : In U S). let h = last_is S U j in omega arith) (uncons i)

-- WITH NO STORE LEFT, the versions have the values that the run comes to
pub inv_final : (opening : Values) (σ : State) → Inv opening σ → ((s item : ℕ) → StoreLeft (σ.seat s) item → ⊥) → (item : ℕ) →
    values_after_all σ.order opening item ≡ (σ.version item).value
inv_final opening σ h n item =
    sym (run_to_all u σ.order opening item (λ U i. let l = last_is σ.order U i in omega arith)) ∙ go (σ.version item).due refl
  where
    u : ℕ
    u = max (σ.version item).from (last σ.order)

    go : (o : Option Due) → (σ.version item).due ≡ o → val opening σ.order item u ≡ (σ.version item).value
    go none e = (h.versions item).from_due u (rw e (omega arith)) ∙ rw e refl
    go (some d) e = let l = due_left opening σ h item d e in absurd (n l.0 item l.1)
