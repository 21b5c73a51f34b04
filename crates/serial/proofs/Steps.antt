-- The protocol's steps; each keeps the invariant. Sealing is in Seal.
use Prim.Native.Nat.{ℕ, ◌≤◌}
use mathlib.Core.Path.{◌≡◌, refl, sym, ap, ◌∙◌}
use mathlib.Core.Logic.{inl, inr, ⊎_elim, ◌≢◌}
use mathlib.Core.Option.{none, some}
use mathlib.Core.List.Memᴰ.{head as here}
use mathlib.Core.List.Memᴰ.{tail as there}
use mathlib.Core.List.{List, [], ◌∷◌, ◌++◌, Memᴰ as In}
use mathlib.Core.List.Memᴰ.{append_cases}
use mathlib.Core.List.Memᴰ.{cases_cons as uncons}
use mathlib.Core.List.Memᴰ.{eq_of_singleton}
use mathlib.Core.List.Memᴰ.{append_left}
use mathlib.Core.List.Memᴰ.{append_right}
use mathlib.Core.List.Memᴰ.{not-nil}
use native.Mathlib.Omega.{arith}
use Rattle.observer.specs.Observer.{WriteEntry, Transaction, changed}
use Rattle.observer.proofs.Changes.{changed-same, changed_other, changed_ind}
use Rattle.serial.specs.Statement.{Values}
use Rattle.serial.proofs.Timeline.{Named, Distinct, distinct_more}
use Rattle.serial.proofs.Protocol.{Stamp, Version, ReadEntry, Seat, State, free, working, checking, storing, Holds, Fits, Below}
use Rattle.serial.proofs.Protocol.{none-some, some_same, VersionOk, EntryOk, Covered, WorkingOk, CheckingOk, StoringOk, Inv}
use Rattle.serial.proofs.Protocol.{up_to_closed}
use Rattle.serial.proofs.Growth.{stays_other, entry_later, keep_holds, step-seat, grows_one, step-version, step_unheld}
use Rattle.serial.proofs.Versions.{with_holder, reaching, overwritten, quiet, holder_ok, holder_grows, reaching_ok, reaching_grows}
use Rattle.serial.proofs.Versions.{overwritten_ok, overwritten_grows}

-- the state with another seat, and with another version
abbrev pub reseat : State → ℕ → Seat → State
reseat σ s seat = record { order = σ.order; version = σ.version; seat = changed s seat σ.seat }

abbrev pub reversion : State → ℕ → Version → State
reversion σ item x = record { order = σ.order; version = changed item x σ.version; seat = σ.seat }

-- the read entry that a version gives
abbrev pub entry_of : ℕ → Version → ReadEntry
entry_of item x = record { told = record { item = item; value = x.value }; kept_write = x.wrote; kept_read = x.up_to }

-- WHY A READ ENTRY PASSES with no change to the version: the kept read time reaches the key; or the version is still the one that was read,
-- and the seat itself writes the record or the version's range reaches the key
pub data Passes (x : Version) (t : Stamp) (ws : List WriteEntry) (e : ReadEntry) : Type 0 where
  spanned : t.key ≤ e.kept_read → Passes x t ws e
  ours : x.wrote ≡ e.kept_write → Named e.told.item ws → Passes x t ws e
  reached : x.wrote ≡ e.kept_write → t.key ≤ x.up_to → Passes x t ws e

module _ (opening : Values) where
  -- THE CHECK'S FACT
  pub pass_covered : (S : List Transaction) (x : Version) (t : Stamp) (ws : List WriteEntry) (e : ReadEntry) → VersionOk opening S e.told.item x →
      EntryOk opening S x e → Fits x t e →
      (Named e.told.item ws → x.due ≡ none) → Passes x t ws e → Covered opening S x t.key ws e
  pass_covered S x t ws e c h f idle (spanned p) =
      let z = up_to_closed opening x c in record { seen = h.span t.key f.not_early p; safe = inl (omega (arith, h.shorter)) }
  pass_covered S x t ws e c h f idle (ours q p) =
      record { seen = quiet opening S e.told.item x c (idle p) t.key (f.current q) ∙ h.same q; safe = inr p }
  pass_covered S x t ws e c h f idle (reached q p) =
      let z = up_to_closed opening x c in
      record { seen = c.up_to_due t.key (f.current q) (λ d y. omega (arith, (c.due_below d y).key)) ∙ h.same q; safe = inl (omega arith) }

  entry_ok : (S : List Transaction) (item : ℕ) (x : Version) → VersionOk opening S item x → EntryOk opening S x (entry_of item x)
  entry_ok S item x c =
      record {
        older = omega arith;
        shorter = omega arith;
        span = λ u p q. c.up_to_due u (omega (arith, c.wrote_low)) (λ d y. omega (arith, (c.due_below d y).key));
        same = λ p. refl;
      }

  module _ (σ : State) (h : Inv opening σ) (s : ℕ) where
    -- one record changes hands, and the others do not
    others_hold : (seat : Seat) (item : ℕ) (x : Version) → ((j : ℕ) → x.holder ≡ some j → Holds (changed s seat σ.seat j) item) →
        ((q : ℕ) → q ≢ item → Holds (σ.seat s) q → Holds seat q) →
        (q j : ℕ) → (changed item x σ.version q).holder ≡ some j → Holds (changed s seat σ.seat j) q
    others_hold seat item x e f q j =
        changed_ind (λ n z. z.holder ≡ some j → Holds (changed s seat σ.seat j) n) item x σ.version (e j)
        (λ n m z. keep_holds opening σ s seat h n (f n m) j z) q

    -- an entry less
    fewer : (w : WriteEntry) (ws : List WriteEntry) (n : ℕ) → n ≢ w.item → Named n (w ∷ ws) → Named n ws
    fewer w ws n m l =
        ⊎_elim (λ (q : l.0 ≡ w). absurd (m (sym l.2 ∙ ap (λ (z : WriteEntry). z.item) q))) (λ (j : In l.0 ws). (l.0, j, l.2)) (uncons l.1)

    -- WRITE: nothing that the protocol sees
    pub rests_inv : Inv opening (reseat σ s (σ.seat s))
    rests_inv = step-seat opening σ s (σ.seat s) h (h.seats s) (h.by-time.seats s) (λ item z. z)

    -- OPEN
    pub opens_inv : σ.seat s ≡ free → Inv opening (reseat σ s (working [] []))
    unfolding Distinct
    opens_inv e =
        step-seat opening σ s (working [] []) h (record { entries = λ z i. absurd (not-nil i); held = λ z i. absurd (not-nil i); distinct = tt }) tt
        (rw e (λ item z. absurd z))

    -- READ
    pub reads_inv : (rs : List ReadEntry) (ws : List WriteEntry) (item : ℕ) → σ.seat s ≡ working rs ws →
        Inv opening (reseat σ s (working (rs ++ (entry_of item (σ.version item) ∷ [])) ws))
    reads_inv rs ws item e =
        let w : WorkingOk opening σ.order σ.version s rs ws = rw e at (h.seats s) in
        let new = entry_of item (σ.version item) in
        step-seat opening σ s (working (rs ++ (new ∷ [])) ws) h
        (record {
          entries = λ z i. ⊎_elim (λ (j : In z rs). w.entries z j)
              (λ (j : In z (new ∷ [])). rw (eq_of_singleton j) (entry_ok σ.order item (σ.version item) (h.versions item))) (append_cases rs i);
          held = w.held;
          distinct = w.distinct;
        })
        tt
        (rw e (λ q z. z))

    -- LOCK
    pub locks_inv : (rs : List ReadEntry) (ws : List WriteEntry) (w : WriteEntry) → σ.seat s ≡ working rs ws → (σ.version w.item).holder ≡ none →
        Inv opening (reseat (reversion σ w.item (with_holder (some s) (σ.version w.item))) s (working rs (ws ++ (w ∷ []))))
    locks_inv rs ws w e o =
        let wo : WorkingOk opening σ.order σ.version s rs ws = rw e at (h.seats s) in
        let item = w.item in
        let x = σ.version item in
        let y = with_holder (some s) x in
        let seat = working rs (ws ++ (w ∷ [])) in
        let idle = (h.versions item).due_held o in
        let grow = holder_grows opening σ.order item x (h.versions item) (some s) in
        let far : (v : WriteEntry) → In v ws → v.item ≢ item = λ v i q. none-some x.holder s o (rw q at (wo.held v i).mine) in
        step-version opening σ s seat item y h (holder_ok opening σ.order item x (h.versions item) (some s) idle) grow
        (λ j n. stays_other opening j σ.order σ.order item x y (none-some x.holder j o))
        (record {
          entries = λ z i. entry_later opening σ.order σ.order σ.version (changed item y σ.version) h.versions
              (grows_one opening σ item y grow) z (wo.entries z i);
          held = λ v i. ⊎_elim
              (λ (j : In v ws). rw (changed_other item y σ.version v.item (far v j)) (wo.held v j))
              (λ (j : In v (w ∷ [])). rw (eq_of_singleton j, changed-same item y σ.version) (record { mine = refl; idle = idle }))
              (append_cases ws i);
          distinct = distinct_more ws w wo.distinct far;
        })
        tt
        (others_hold seat item y
        (λ j q. rw (some_same (some s) j s q refl, changed-same s seat σ.seat) (w, append_right ws (here refl), refl))
        (rw e (λ q n z. (z.0, append_left (w ∷ []) z.1, z.2))))

    -- TIME
    pub times_inv : (t : Stamp) (rs : List ReadEntry) (ws : List WriteEntry) → σ.seat s ≡ working rs ws → t.key ≡ t.time →
        ((e : ReadEntry) → In e rs → Fits (σ.version e.told.item) t e) → ((w : WriteEntry) → In w ws → Below (σ.version w.item) t) →
        Inv opening (reseat σ s (checking t [] rs ws))
    times_inv t rs ws e timed a b =
        let w : WorkingOk opening σ.order σ.version s rs ws = rw e at (h.seats s) in
        step-seat opening σ s (checking t [] rs ws) h
        (record { passed = λ z i. absurd (not-nil i); entries = w.entries; fits = a; held = w.held; below = b; distinct = w.distinct })
        timed
        (rw e (λ q z. z))

    -- CHECK: a read entry that is covered passes
    covers : (t : Stamp) (ok rs : List ReadEntry) (ws : List WriteEntry) (e : ReadEntry) → σ.seat s ≡ checking t ok (e ∷ rs) ws →
        Covered opening σ.order (σ.version e.told.item) t.key ws e →
        Inv opening (reseat σ s (checking t (ok ++ (e ∷ [])) rs ws))
    covers t ok rs ws e q cv =
        let w : CheckingOk opening σ.order σ.version s t ok (e ∷ rs) ws = rw q at (h.seats s) in
        step-seat opening σ s (checking t (ok ++ (e ∷ [])) rs ws) h
        (record {
          passed = λ z i. ⊎_elim (λ (j : In z ok). w.passed z j) (λ (j : In z (e ∷ [])). rw (eq_of_singleton j) cv) (append_cases ok i);
          entries = λ z i. w.entries z (there i);
          fits = λ z i. w.fits z (there i);
          held = w.held;
          below = w.below;
          distinct = w.distinct;
        })
        (rw q at (h.by-time.seats s))
        (rw q (λ r z. z))

    pub passes_inv : (t : Stamp) (ok rs : List ReadEntry) (ws : List WriteEntry) (e : ReadEntry) → σ.seat s ≡ checking t ok (e ∷ rs) ws →
        Passes (σ.version e.told.item) t ws e →
        Inv opening (reseat σ s (checking t (ok ++ (e ∷ [])) rs ws))
    passes_inv t ok rs ws e q p =
        let w : CheckingOk opening σ.order σ.version s t ok (e ∷ rs) ws = rw q at (h.seats s) in
        covers t ok rs ws e q
        (pass_covered σ.order (σ.version e.told.item) t ws e (h.versions e.told.item) (w.entries e (here refl)) (w.fits e (here refl))
        (λ i. rw i.2 at (w.held i.0 i.1).idle) p)

    -- STORE
    pub stores_inv : (t : Stamp) (ws : List WriteEntry) (w : WriteEntry) → σ.seat s ≡ storing t (w ∷ ws) →
        Inv opening (reseat (reversion σ w.item (overwritten t w (σ.version w.item))) s (storing t ws))
    unfolding Distinct
    stores_inv t ws w e =
        let so : StoringOk opening σ.version s t (w ∷ ws) = rw e at (h.seats s) in
        let item = w.item in
        let x = σ.version item in
        let y = overwritten t w x in
        let due = so.due w (here refl) in
        let timed : t.key ≡ t.time = rw e at (h.by-time.seats s) in
        step-version opening σ s (storing t ws) item y h
        (overwritten_ok opening σ.order item x (h.versions item) t w due timed)
        (overwritten_grows opening σ.order item x (h.versions item) t w due)
        (λ j n. stays_other opening j σ.order σ.order item x y (λ q. n (some_same x.holder j s q (so.mine w (here refl)))))
        (record {
          mine = λ v i. rw (changed_other item y σ.version v.item (so.distinct.0 v i)) (so.mine v (there i));
          due = λ v i. rw (changed_other item y σ.version v.item (so.distinct.0 v i)) (so.due v (there i));
          distinct = so.distinct.1;
        })
        timed
        (others_hold (storing t ws) item y (λ j z. absurd (none-some {A = ℕ} none j refl z)) (rw e (fewer w ws)))

    -- DONE
    pub finishes_inv : (t : Stamp) → σ.seat s ≡ storing t [] → Inv opening (reseat σ s free)
    finishes_inv t e = step-seat opening σ s free h tt tt (rw e (λ item z. absurd (not-nil z.1)))

    -- AN ABORT, or Abandon: back to work, then lock by lock, and out
    pub retreats_inv : (t : Stamp) (ok rs : List ReadEntry) (ws : List WriteEntry) → σ.seat s ≡ checking t ok rs ws → Inv opening (reseat σ s (working [] ws))
    retreats_inv t ok rs ws e =
        let w : CheckingOk opening σ.order σ.version s t ok rs ws = rw e at (h.seats s) in
        step-seat opening σ s (working [] ws) h (record { entries = λ z i. absurd (not-nil i); held = w.held; distinct = w.distinct }) tt (rw e (λ item z. z))

    pub unlocks_inv : (rs : List ReadEntry) (ws : List WriteEntry) (w : WriteEntry) → σ.seat s ≡ working rs (w ∷ ws) →
        Inv opening (reseat (reversion σ w.item (with_holder none (σ.version w.item))) s (working rs ws))
    unfolding Distinct
    unlocks_inv rs ws w e =
        let wo : WorkingOk opening σ.order σ.version s rs (w ∷ ws) = rw e at (h.seats s) in
        let item = w.item in
        let x = σ.version item in
        let y = with_holder none x in
        let grow = holder_grows opening σ.order item x (h.versions item) none in
        step-version opening σ s (working rs ws) item y h (holder_ok opening σ.order item x (h.versions item) none (wo.held w (here refl)).idle) grow
        (λ j n. stays_other opening j σ.order σ.order item x y (λ q. n (some_same x.holder j s q (wo.held w (here refl)).mine)))
        (record {
          entries = λ z i. entry_later opening σ.order σ.order σ.version (changed item y σ.version) h.versions
              (grows_one opening σ item y grow) z (wo.entries z i);
          held = λ v i. rw (changed_other item y σ.version v.item (wo.distinct.0 v i)) (wo.held v (there i));
          distinct = wo.distinct.1;
        })
        tt
        (others_hold (working rs ws) item y (λ j z. absurd (none-some {A = ℕ} none j refl z)) (rw e (fewer w ws)))

    pub leaves_inv : (rs : List ReadEntry) → σ.seat s ≡ working rs [] → Inv opening (reseat σ s free)
    leaves_inv rs e = step-seat opening σ s free h tt tt (rw e (λ item z. absurd (not-nil z.1)))

  -- CHECK that extends, one step: the version is still the one that was read and nobody holds it; `wrote` is its write time from now on
  pub renews_inv : (σ : State) → Inv opening σ → (s : ℕ) (t : Stamp) (ok rs : List ReadEntry) (ws : List WriteEntry) (e : ReadEntry) (wrote : ℕ) →
      σ.seat s ≡ checking t ok (e ∷ rs) ws →
      (σ.version e.told.item).holder ≡ none → (σ.version e.told.item).wrote ≡ e.kept_write →
      e.kept_write ≤ wrote → (σ.version e.told.item).up_to ≤ t.key →
      Inv opening (reseat (reversion σ e.told.item (reaching wrote t.key (σ.version e.told.item))) s (checking t (ok ++ (e ∷ [])) rs ws))
  renews_inv σ h s t ok rs ws e wrote q o a b c =
      let item = e.told.item in
      let x = σ.version item in
      let y = reaching wrote t.key x in
      let ck : CheckingOk opening σ.order σ.version s t ok (e ∷ rs) ws = rw q at (h.seats s) in
      let idle = (h.versions item).due_held o in
      covers (reversion σ item y)
      (step_unheld opening σ item y h o o
      (reaching_ok opening σ.order item x (h.versions item) wrote t.key o (omega arith) c)
      (reaching_grows opening σ.order item x (h.versions item) wrote t.key o (omega arith) c))
      s t ok rs ws e q
      (rw (changed-same item y σ.version) (record {
        seen = quiet opening σ.order item x (h.versions item) idle t.key ((ck.fits e (here refl)).current a) ∙ (ck.entries e (here refl)).same a;
        safe = inl (rw idle (omega arith));
      }))
