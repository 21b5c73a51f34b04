-- What has been seen of each seat is what its row holds, and the plan in force is the last Setup's.
use Prim.Native.Nat.{ℕ, ◌<◌}
use mathlib.Core.Path.{◌≡◌, sym, ap, ◌∙◌, subst}
use mathlib.Core.List.{List, [], ◌∷◌}
use lib.ListN.{get_or}
use Rattle.rules.specs.Layout.{plan_width, row, reads, writes}
use Rattle.rules.specs.Tables.{Tables, Outcome}
use Rattle.rules.specs.Answers.{kind}
use Rattle.rules.specs.Calls.{Call, step, run, history}
use Rattle.observer.specs.Observer.{Observer, begun_with, observe, observed}
use Rattle.observer.proofs.Changes.{changed_ind, refusal-shows, begins_anew}
use Rattle.observer.proofs.Segments.{length-seg}
use Rattle.observer.proofs.Entries.{read_at, write_at}
use Rattle.reach.specs.Reached.{Reached, begun, seen}
use Rattle.reach.specs.Counts.{write_count, read_count}
use Rattle.reach.proofs.InOrder.{InOrder}
use Rattle.reach.proofs.Steps.{seen_of}
use Rattle.reach.proofs.Freed.{seen-free}
use Rattle.reach.proofs.Effects.{Effect, refuses, changes, starts, effect_of, after_effect}
use Rattle.reach.proofs.Reached.{begun_in_order, begun-free, begun-plan}

record Sees (t : Tables) (b : Observer) : Type 0 where
  rows : (s : ℕ) → seen_of (row t.seats s) ≡ b.seats s
  plan : (i : ℕ) → i < plan_width → get_or t.seats i 0 ≡ get_or b.plan i 0

sees_effect : (t : Tables) (b : Observer) (c : Call) (o : Outcome) → Sees t b → Effect t c o → Sees o.tables (observe b c o.answer)
sees_effect t b c o z (refuses n d e) =
    subst (λ (o : Outcome). Sees o.tables (observe b c o.answer)) (sym e) (rw (refusal-shows b c n) z)
sees_effect t b c o z (changes s low f at h ch bk told) =
    record {
      rows = λ j. rw (at.seats b)
          (changed_ind (λ j x. seen_of (row o.tables.seats j) ≡ x) s (f (b.seats s) o.answer) b.seats
          (rw (ch.becomes.own, ← z.rows s) told.shown) (λ j d. rw (ch.becomes.others j d) (z.rows j)) j);
      plan = λ i l. rw (at.plan b) (ch.becomes.plan i l ∙ z.plan i l);
    }
sees_effect t b c o z (starts start plan q e m k zero p) =
    rw (q, begins_anew b start plan o.answer (ap kind e)) (record { rows = λ s. seen-free (row o.tables.seats s) (zero s); plan = p })

sees_run : (t : Tables) (b : Observer) → InOrder t → Sees t b → (cs : List Call) → Sees (run t cs) (observed b (history t cs))
unfolding run history observed
sees_run t b k z [] = z
sees_run t b k z (c ∷ cs) =
    sees_run (step t c).tables (observe b c (step t c).answer) (after_effect t c (step t c) k (effect_of t k c))
    (sees_effect t b c (step t c) z (effect_of t k c)) cs

module _ (t : Tables) (z : Reached t) where
  sees : Sees t (seen z)
  sees =
      rw z.now at
      (sees_run (begun z) (begun_with z.plan) (begun_in_order z.opening z.start z.plan z.answered)
      (record {
        rows = λ s. seen-free (row (begun z).seats s) (begun-free z.opening z.start z.plan z.answered s);
        plan = begun-plan z.opening z.start z.plan z.answered;
      })
      z.calls)

  -- what has been seen of a seat is what its row holds
  pub seat_is : (s : ℕ) → (seen z).seats s ≡ seen_of (row t.seats s)
  seat_is s = sym (sees.rows s)

  -- the plan is that of the last Setup that answered ready
  pub plan-stays : (i : ℕ) → i < plan_width → get_or t.seats i 0 ≡ get_or (seen z).plan i 0
  plan-stays = sees.plan

  -- as many records written, and read, as the row has entries
  pub writes_are : (s : ℕ) → writes (row t.seats s) ≡ write_count ((seen z).seats s)
  writes_are s = let g : List ℕ = row t.seats s in sym (length-seg (write_at g) (writes g) 0) ∙ ap write_count (sees.rows s)

  pub reads_are : (s : ℕ) → reads (row t.seats s) ≡ read_count ((seen z).seats s)
  reads_are s = let g : List ℕ = row t.seats s in sym (length-seg (read_at g) (reads g) 0) ∙ ap read_count (sees.rows s)
