-- Sealing: the transaction takes its place in the serial order, and its stores become due.
use Prim.Native.Nat.{ℕ, ◌≤◌, ◌<◌}
use mathlib.Core.Path.{◌≡◌, refl, sym, ap, ◌∙◌}
use mathlib.Core.Logic.{◌⊎◌, inl, inr, ⊎_elim, ◌≢◌}
use mathlib.Core.Option.{none, some}
use mathlib.Core.List.Memᴰ.{of_map as in_map}
use mathlib.Core.List.{List, [], map, Memᴰ as In}
use native.Mathlib.Omega.{arith}
use Rattle.observer.specs.Observer.{FirstRead, WriteEntry, Transaction, changed}
use Rattle.serial.specs.Statement.{Values, applied, Right, ranked}
use Rattle.serial.specs.Order.{Sorted}
use Rattle.serial.proofs.Order.{in_ranked, sorted_ranked}
use Rattle.serial.proofs.Timeline.{Named, Absent, find, distinct_same, written-named, run_to_below, run_to_absent, run_to-above, right_ranked}
use Rattle.serial.proofs.Protocol.{Stamp, Due, Version, ReadEntry, State, checking, storing, closed, Below, none-some, some_same}
use Rattle.serial.proofs.Protocol.{val, VersionOk, CheckingOk, Inv}
use Rattle.serial.proofs.Growth.{Grows, Stays, stays_other, step_inv, keep_holds}
use Rattle.serial.proofs.Versions.{quiet}

-- what its reader was told
abbrev pub first_read_of : ReadEntry → FirstRead
first_read_of e = e.told

abbrev pub transaction_of : Stamp → List ReadEntry → List WriteEntry → Transaction
transaction_of t ok ws = record { time = t.time; key = t.key; reads = map first_read_of ok; writes = ws }

-- a version as its store becomes due, if there is one
abbrev pub marked : {item : ℕ} {ws : List WriteEntry} → Stamp → Named item ws ⊎ Absent item ws → Version → Version
marked t (inl p) x =
    record { value = x.value; wrote = x.wrote; from = x.from; up_to = x.up_to; holder = x.holder; due = some (record { stamp = t; entry = p.0 }) }
marked t (inr a) x = x

abbrev pub all_marked : Stamp → List WriteEntry → (ℕ → Version) → ℕ → Version
all_marked t ws c item = marked t (find item ws) (c item)

module _ (opening : Values) (S : List Transaction) (c : ℕ → Version) (so : Sorted S) (ve : (item : ℕ) → VersionOk opening S item (c item))
    (s : ℕ) (t : Stamp) (ok : List ReadEntry) (ws : List WriteEntry) (h : CheckingOk opening S c s t ok [] ws) where
  abbrev T : Transaction
  T = transaction_of t ok ws

  -- A RECORD THAT IT WRITES: its lock is held, nothing is due, and it may be stored over
  named_mine : (item : ℕ) → Named item ws → (c item).holder ≡ some s
  named_mine item p = rw p.2 at (h.held p.0 p.1).mine

  named_idle : (item : ℕ) → Named item ws → (c item).due ≡ none
  named_idle item p = rw p.2 at (h.held p.0 p.1).idle

  named_below : (item : ℕ) → Named item ws → Below (c item) t
  named_below item p = rw p.2 at (h.below p.0 p.1)

  -- so whoever touched it has a smaller key
  named_early : (item : ℕ) → Named item ws → (u : ℕ) → u ≤ closed (c item) → u < t.key
  named_early item p u q = let z : u ≤ (c item).up_to = (rw (named_idle item p) at q) in omega (arith, (named_below item p).key)

  -- the run's values: below its key, from its key on, and of what it does not write
  run_below : (item u : ℕ) → u < t.key → val opening (ranked T S) item u ≡ val opening S item u
  run_below item u p = run_to_below T S u item (opening item) p

  run-above : (item : ℕ) (p : Named item ws) (u : ℕ) → t.key ≤ u → val opening (ranked T S) item u ≡ applied p.0 (c item).value
  run-above item p u q =
      let b = (named_below item p).key in
      let m = (ve item).range in
      run_to-above T S u item (opening item) q so (λ U i l w j e. let z = named_early item p U.key ((ve item).writers U i w j e) in omega arith)
      ∙ written-named ws p.0 item (val opening S item u) h.distinct p.1 p.2
      ∙ ap (applied p.0) (quiet opening S item (c item) (ve item) (named_idle item p) u (omega arith))

  run_aside : (item : ℕ) → Absent item ws → (u : ℕ) → val opening (ranked T S) item u ≡ val opening S item u
  run_aside item a u = run_to_absent T S u item (opening item) a

  -- ITS READS have passed
  read-closed : (item : ℕ) → Absent item ws → (e : FirstRead) → In e T.reads → e.item ≡ item → t.key ≤ closed (c item)
  read-closed item a e i q =
      let m = in_map first_read_of ok i in
      let n : m.0.told.item ≡ item = ap (λ (z : FirstRead). z.item) m.2 ∙ q in
      ⊎_elim (λ (p : t.key ≤ closed (c m.0.told.item)). rw n at p) (λ (p : Named m.0.told.item ws). absurd (a p.0 p.1 (p.2 ∙ n)))
      (h.passed m.0 m.1).safe

  seal_right : Right S opening → Right (ranked T S) opening
  seal_right ri =
      right_ranked T S opening so
      (λ e i. let m = in_map first_read_of ok i in rw (sym m.2) (h.passed m.0 m.1).seen)
      (λ U i l e j w n q. let z = named_early e.item (w, n, q) U.key ((ve e.item).readers U i e j refl) in omega arith)
      ri

  -- THE VERSIONS
  marked_ok : (item : ℕ) (d : Named item ws ⊎ Absent item ws) → VersionOk opening (ranked T S) item (marked t d (c item))
  marked_ok item (inl p) =
      record {
        range = (ve item).range;
        wrote_low = (ve item).wrote_low;
        due_below = λ d e. rw (is d e) (record { key = (named_below item p).key; time = (named_below item p).time });
        due_held = λ e. absurd (none-some (c item).holder s e (named_mine item p));
        up_to_due = λ u a b. run_below item u (b (record { stamp = t; entry = p.0 }) refl) ∙ quiet opening S item (c item) (ve item) (named_idle item p) u a;
        from_due = λ u a. run-above item p u a;
        readers = λ U i e j q. ⊎_elim (λ (z : U ≡ T). rw z (omega arith))
            (λ (z : In U S). let y = named_early item p U.key ((ve item).readers U z e j q) in omega arith) (in_ranked T S U i);
        writers = λ U i w j q. ⊎_elim (λ (z : U ≡ T). rw z (omega arith))
            (λ (z : In U S). let y = named_early item p U.key ((ve item).writers U z w j q) in omega arith) (in_ranked T S U i);
      }
    where
      is : (d : Due) → some (record { stamp = t; entry = p.0 }) ≡ some d → d.stamp ≡ t
      is d e = ap (λ (z : Due). z.stamp) (some_same (some d) d (record { stamp = t; entry = p.0 }) refl (sym e))
  marked_ok item (inr a) =
      record {
        range = (ve item).range;
        wrote_low = (ve item).wrote_low;
        due_below = (ve item).due_below;
        due_held = (ve item).due_held;
        up_to_due = λ u p q. run_aside item a u ∙ (ve item).up_to_due u p q;
        from_due = λ u p. run_aside item a u ∙ (ve item).from_due u p;
        readers = λ U i e j q. ⊎_elim (λ (z : U ≡ T). rw z (read-closed item a e (rw z at j) q)) (λ (z : In U S). (ve item).readers U z e j q)
            (in_ranked T S U i);
        writers = λ U i w j q. ⊎_elim (λ (z : U ≡ T). absurd (a w (rw z at j) q)) (λ (z : In U S). (ve item).writers U z w j q) (in_ranked T S U i);
      }

  marked_grows : (item : ℕ) (d : Named item ws ⊎ Absent item ws) → Grows opening S (ranked T S) item (c item) (marked t d (c item))
  marked_grows item (inl p) =
      let b = (named_below item p).key in
      record {
        newer = omega arith;
        longer = omega arith;
        wider = rw (named_idle item p) (omega arith);
        past = λ u q. run_below item u (named_early item p u q);
        same-value = λ q. refl;
        same_from = λ q. refl;
      }
  marked_grows item (inr a) =
      record { newer = omega arith; longer = omega arith; wider = omega arith; past = λ u q. run_aside item a u; same-value = λ q. refl; same_from = λ q. refl }

  marked-stays : (j : ℕ) → j ≢ s → (item : ℕ) (d : Named item ws ⊎ Absent item ws) → Stays opening j S (ranked T S) item (c item) (marked t d (c item))
  marked-stays j n item (inl p) =
      stays_other opening j S (ranked T S) item (c item) _ (λ e. n (some_same (c item).holder j s e (named_mine item p)))
  marked-stays j n item (inr a) =
      record { same_holder = λ q. q; same_wrote = λ q. refl; same_up_to = λ q. refl; same_due = λ q. refl; same-run = λ q u. run_aside item a u }

  -- ITS STORES
  marked_mine : (w : WriteEntry) → In w ws → (d : Named w.item ws ⊎ Absent w.item ws) → (marked t d (c w.item)).holder ≡ some s
  marked_mine w i (inl p) = (h.held w i).mine
  marked_mine w i (inr a) = absurd (a w i refl)

  marked_due : (w : WriteEntry) → In w ws → (d : Named w.item ws ⊎ Absent w.item ws) →
      (marked t d (c w.item)).due ≡ some (record { stamp = t; entry = w })
  marked_due w i (inl p) = ap (λ (z : WriteEntry). some (record { stamp = t; entry = z })) (distinct_same ws p.0 w h.distinct p.1 i p.2)
  marked_due w i (inr a) = absurd (a w i refl)

-- THE STEP
abbrev pub sealed_state : State → ℕ → Stamp → List ReadEntry → List WriteEntry → State
sealed_state σ s t ok ws =
    record { order = ranked (transaction_of t ok ws) σ.order; version = all_marked t ws σ.version; seat = changed s (storing t ws) σ.seat }

pub seal_inv : (opening : Values) (σ : State) (s : ℕ) (t : Stamp) (ok : List ReadEntry) (ws : List WriteEntry) → σ.seat s ≡ checking t ok [] ws →
    Inv opening σ → Inv opening (sealed_state σ s t ok ws)
seal_inv opening σ s t ok ws e h =
    step_inv opening σ (ranked (transaction_of t ok ws) σ.order) (all_marked t ws σ.version) s (storing t ws) h
    (sorted_ranked (transaction_of t ok ws) σ.order h.sorted)
    (seal_right opening σ.order σ.version h.sorted h.versions s t ok ws ck h.right)
    (λ item. marked_ok opening σ.order σ.version h.sorted h.versions s t ok ws ck item (find item ws))
    (λ item. marked_grows opening σ.order σ.version h.sorted h.versions s t ok ws ck item (find item ws))
    (λ j n item. marked-stays opening σ.order σ.version h.sorted h.versions s t ok ws ck j n item (find item ws))
    (record {
      mine = λ w i. marked_mine opening σ.order σ.version h.sorted h.versions s t ok ws ck w i (find w.item ws);
      due = λ w i. marked_due opening σ.order σ.version h.sorted h.versions s t ok ws ck w i (find w.item ws);
      distinct = ck.distinct;
    })
    timed
    (λ U i. ⊎_elim (λ (z : U ≡ transaction_of t ok ws). rw z timed) (λ (z : In U σ.order). h.by-time.sealed U z)
    (in_ranked (transaction_of t ok ws) σ.order U i))
    (λ item j q. keep_holds opening σ s (storing t ws) h item (rw e (λ z. z)) j (sym (same_holder item (find item ws)) ∙ q))
  where
    ck : CheckingOk opening σ.order σ.version s t ok [] ws
    ck = rw e at (h.seats s)

    timed : t.key ≡ t.time
    timed = rw e at (h.by-time.seats s)

    same_holder : (item : ℕ) (d : Named item ws ⊎ Absent item ws) → (marked t d (σ.version item)).holder ≡ (σ.version item).holder
    same_holder item (inl z) = refl
    same_holder item (inr a) = refl
