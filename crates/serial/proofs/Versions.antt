-- What a step does to one version: locked, unlocked, extended, stored. Each keeps what holds of a version, and is a growth.
use Prim.Native.Nat.{ℕ, ◌≤◌}
use mathlib.Core.Path.{◌≡◌, refl, ◌∙◌}
use mathlib.Core.Option.{Option, none, some}
use mathlib.Core.List.{List}
use native.Mathlib.Omega.{arith}
use Rattle.observer.specs.Observer.{WriteEntry, Transaction}
use Rattle.serial.specs.Statement.{Values, applied}
use Rattle.serial.proofs.Protocol.{Stamp, Due, Version, closed, none-some, val, VersionOk}
use Rattle.serial.proofs.Growth.{Grows}

-- the lock given to a seat, or given back
abbrev pub with_holder : Option ℕ → Version → Version
with_holder o x = record { value = x.value; wrote = x.wrote; from = x.from; up_to = x.up_to; holder = o; due = x.due }

-- the read time is `up_to` now, and the write time `wrote`
abbrev pub reaching : ℕ → ℕ → Version → Version
reaching wrote up_to x =
    record { value = x.value; wrote = wrote; from = x.from; up_to = up_to; holder = x.holder; due = x.due }

-- the store that was due is made
abbrev pub overwritten : Stamp → WriteEntry → Version → Version
overwritten t w x = record { value = applied w x.value; wrote = t.time; from = t.key; up_to = t.key; holder = none; due = none }

module _ (opening : Values) (S : List Transaction) (item : ℕ) (x : Version) (h : VersionOk opening S item x) where
  -- with no store to come, the value is the run's from its own store on
  pub quiet : x.due ≡ none → (u : ℕ) → x.from ≤ u → val opening S item u ≡ x.value
  quiet q u p = h.from_due u (rw q p) ∙ rw q refl

  pub holder_ok : (o : Option ℕ) → x.due ≡ none → VersionOk opening S item (with_holder o x)
  holder_ok o q =
      record {
        range = h.range;
        wrote_low = h.wrote_low;
        due_below = λ d e. absurd (none-some x.due d q e);
        due_held = λ p. q;
        up_to_due = h.up_to_due;
        from_due = h.from_due;
        readers = h.readers;
        writers = h.writers;
      }

  pub holder_grows : (o : Option ℕ) → Grows opening S S item x (with_holder o x)
  holder_grows o =
      record { newer = omega arith; longer = omega arith; wider = omega arith; past = λ u p. refl; same-value = λ p. refl; same_from = λ p. refl }

  module _ (wrote up_to : ℕ) (o : x.holder ≡ none) (a : x.wrote ≤ wrote) (c : x.up_to ≤ up_to) where
    idle : x.due ≡ none
    idle = h.due_held o

    pub reaching_ok : VersionOk opening S item (reaching wrote up_to x)
    reaching_ok =
        record {
          range = let l = h.range in omega arith;
          wrote_low = let l = h.wrote_low in omega arith;
          due_below = λ d e. absurd (none-some x.due d idle e);
          due_held = h.due_held;
          up_to_due = h.up_to_due;
          from_due = h.from_due;
          readers = λ T i e j q. up (h.readers T i e j q);
          writers = λ T i w j q. up (h.writers T i w j q);
        }
      where
        up : {n : ℕ} → n ≤ closed x → n ≤ closed (reaching wrote up_to x)
        up = rw idle (λ p. omega arith)

    pub reaching_grows : Grows opening S S item x (reaching wrote up_to x)
    reaching_grows =
        record { newer = a; longer = c; wider = rw idle c; past = λ u p. refl; same-value = λ p. refl; same_from = λ p. refl }

  module _ (t : Stamp) (w : WriteEntry) (due : x.due ≡ some (record { stamp = t; entry = w })) where
    pub overwritten_ok : t.key ≡ t.time → VersionOk opening S item (overwritten t w x)
    overwritten_ok timed =
        record {
          range = omega arith;
          wrote_low = omega arith;
          due_below = λ d e. absurd (none-some {A = Due} none d refl e);
          due_held = λ p. refl;
          up_to_due = λ u p q. last u p;
          from_due = last;
          readers = λ T i e j q. rw due at (h.readers T i e j q);
          writers = λ T i v j q. rw due at (h.writers T i v j q);
        }
      where
        last : (u : ℕ) → t.key ≤ u → val opening S item u ≡ applied w x.value
        last u p = h.from_due u (rw due p) ∙ rw due refl

    pub overwritten_grows : Grows opening S S item x (overwritten t w x)
    overwritten_grows =
        let l = h.due_below (record { stamp = t; entry = w }) due in
        record {
          newer = omega (arith, l.time);
          longer = omega (arith, l.key);
          wider = rw due (omega arith);
          past = λ u p. refl;
          same-value = λ p. absurd (omega (arith, l.time));
          same_from = λ p. absurd (omega (arith, l.time));
        }
