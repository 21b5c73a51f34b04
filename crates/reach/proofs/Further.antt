-- One Advance further: what its answer shows of a seat whose row is nudged.
use Prim.Native.Nat.{ℕ, ◌+◌, ◌-◌, ◌*◌, ◌<◌, ◌≤◌}
use mathlib.Core.Path.{◌≡◌, sym, ap, ◌∙◌}
use mathlib.Core.Bool.{Bool, cond, not}
use mathlib.Core.List.{List}
use native.Mathlib.Omega.{arith}
use borrow.Author.Tests.{ne_eqb}
use lib.Dec.{eqb}
use Rattle.rules.specs.Layout.{phase, position, reads, writes}
use Rattle.rules.specs.Answers.{locked, stored, kind}
use Rattle.rules.specs.declared.Answer.{Answer}
use Rattle.rows.specs.Changed.{Nudged}
use Rattle.observer.specs.Observer.{one_more, on_advance}
use Rattle.observer.proofs.Entries.{nudged_reads, nudged_writes, nudged_first_reads, nudged_write_entries}
use Rattle.reach.proofs.InOrder.{locks, steps_taken}
use Rattle.reach.proofs.Script.{script-length, NextKind, kind-next}
use Rattle.reach.proofs.Rows.{nudged_owner}
use Rattle.reach.proofs.Steps.{seen_of, seen_as, Tells}

-- one Advance further, answered with a step's word
pub record Further (g h : List ℕ) (k : ℕ) : Type 0 where
  pub least : locked ≤ k
  pub most : k ≤ stored
  pub was_used : 1 ≤ phase g
  pub is_used : 1 ≤ phase h
  pub fits : steps_taken g < 2 * writes g + reads g + 3
  pub further : steps_taken h ≡ steps_taken g + 1

-- a nudge leaves the entries, and so what is written and read
pub tells_more : {g h : List ℕ} {ph p tm : ℕ} (a : Answer) (b : Bool) (held : ℕ → Bool) (key left : ℕ) → Nudged g h ph p tm →
    NextKind (writes g) (reads g) (steps_taken g) (kind a) → Further g h (kind a) → eqb (phase h) 4 ≡ b → ((x : ℕ) → locks h x ≡ held x) → tm ≡ key →
    cond (eqb (phase h) 4) (writes h - position h) 0 ≡ left → one_more (seen_of g) a b held key left ≡ on_advance (seen_of g) a → Tells on_advance g h a
tells_more {g} {h} a b held key left n x f e holds is_key is_left same =
    let w = nudged_writes n in
    let r = nudged_reads n in
    let z = script-length (writes g) (reads g) in
    let fits = f.fits in
    record {
      shown =
          seen_as h (one_more (seen_of g) a b held key left)
          (record {
            is_open = ap not (ne_eqb (phase h) 0 (let q = f.is_used in omega arith) ∙ sym (ne_eqb (phase g) 0 (let q = f.was_used in omega arith)));
            is_holder = nudged_owner n;
            is_advances = rw (f.further, w, r) (kind-next x (λ q. omega (arith, f.most)) (omega arith));
            is_sealed = e;
            shows = record { is_reads = nudged_first_reads n; is_writes = nudged_write_entries n };
            is_locked = holds;
            is_key = n.is_time ∙ is_key;
            is_left = is_left;
          })
          ∙ same;
      fair = λ q. absurd (omega (arith, f.most));
      plain = λ q. omega (arith, f.least);
    }
