-- What a step of the protocol has to show: that the versions grow, and that the other seats stay right.
use Prim.Native.Nat.{ℕ, ◌≤◌}
use mathlib.Core.Path.{◌≡◌, refl, ◌∙◌}
use mathlib.Core.Logic.{◌⊎◌, inl, inr, ◌≢◌}
use mathlib.Core.Option.{Option, none, some}
use mathlib.Core.List.{List, Memᴰ as In}
use native.Mathlib.Omega.{arith}
use native.Mathlib.Decide.{ℕ_discrete}
use Rattle.observer.specs.Observer.{WriteEntry, Transaction, changed}
use Rattle.observer.proofs.Changes.{changed-same, changed_other, changed_ind}
use Rattle.serial.specs.Statement.{Values, Right}
use Rattle.serial.specs.Order.{Sorted}
use Rattle.serial.proofs.Timeline.{Named}
use Rattle.serial.proofs.Protocol.{none-some, Stamp, Due, Version, ReadEntry, Seat, State}
use Rattle.serial.proofs.Protocol.{free, working, checking, storing, closed, StoreLeft, Holds, KeyIsTime, Fits, Below, val}
use Rattle.serial.proofs.Protocol.{VersionOk, EntryOk, Covered, Held, SeatOk, Inv, up_to_closed}

module _ (opening : Values) where
  -- WHAT A STEP MAY DO TO A VERSION
  -- as every seat sees it: numbers rise, nothing that is closed changes, the same number means the same value
  pub record Grows (S S' : List Transaction) (item : ℕ) (x y : Version) : Type 0 where
    pub newer : x.wrote ≤ y.wrote
    pub longer : x.up_to ≤ y.up_to
    pub wider : closed x ≤ closed y
    pub past : (u : ℕ) → u ≤ closed x → val opening S' item u ≡ val opening S item u
    pub same-value : y.wrote ≡ x.wrote → y.value ≡ x.value
    pub same_from : y.wrote ≡ x.wrote → y.from ≡ x.from

  -- as a seat s sees it that the step is not of: what it holds stays
  pub record Stays (s : ℕ) (S S' : List Transaction) (item : ℕ) (x y : Version) : Type 0 where
    pub same_holder : x.holder ≡ some s → y.holder ≡ some s
    pub same_wrote : x.holder ≡ some s → y.wrote ≡ x.wrote
    pub same_up_to : x.holder ≡ some s → y.up_to ≡ x.up_to
    pub same_due : x.holder ≡ some s → y.due ≡ x.due
    pub same-run : x.holder ≡ some s → (u : ℕ) → val opening S' item u ≡ val opening S item u

  pub grows_none : (S : List Transaction) (item : ℕ) (x : Version) → Grows S S item x x
  grows_none S item x =
      record { newer = omega arith; longer = omega arith; wider = omega arith; past = λ u p. refl; same-value = λ p. refl; same_from = λ p. refl }

  pub stays-none : (s : ℕ) (S : List Transaction) (item : ℕ) (x : Version) → Stays s S S item x x
  stays-none s S item x =
      record { same_holder = λ p. p; same_wrote = λ p. refl; same_up_to = λ p. refl; same_due = λ p. refl; same-run = λ p u. refl }

  -- of what it does not hold nothing is asked
  pub stays_other : (s : ℕ) (S S' : List Transaction) (item : ℕ) (x y : Version) → (x.holder ≡ some s → ⊥) → Stays s S S' item x y
  stays_other s S S' item x y n =
      record {
        same_holder = λ p. absurd (n p);
        same_wrote = λ p. absurd (n p);
        same_up_to = λ p. absurd (n p);
        same_due = λ p. absurd (n p);
        same-run = λ p u. absurd (n p);
      }

  -- so every other seat stays right
  module _ (S S' : List Transaction) (c c' : ℕ → Version) (ok : (item : ℕ) → VersionOk opening S item (c item))
      (grow : (item : ℕ) → Grows S S' item (c item) (c' item)) where
    pub entry_later : (e : ReadEntry) → EntryOk opening S (c e.told.item) e → EntryOk opening S' (c' e.told.item) e
    entry_later e h =
        let l = grow e.told.item in
        let a = up_to_closed opening (c e.told.item) (ok e.told.item) in
        record {
          older = omega arith;
          shorter = omega arith;
          span = λ u p q. l.past u (omega arith) ∙ h.span u p q;
          same = λ p. l.same-value (omega arith) ∙ h.same (omega arith);
        }

    fits-later : (t : Stamp) (e : ReadEntry) → EntryOk opening S (c e.told.item) e → Fits (c e.told.item) t e → Fits (c' e.told.item) t e
    fits-later t e h f =
        let l = grow e.told.item in
        record { current = λ p. omega (arith, l.same_from (omega arith), f.current (omega arith)); not_early = f.not_early }

    module _ (s : ℕ) (st : (item : ℕ) → Stays s S S' item (c item) (c' item)) where
      held-later : (w : WriteEntry) → Held opening s (c w.item) → Held opening s (c' w.item)
      held-later w h = let l = st w.item in record { mine = l.same_holder h.mine; idle = l.same_due h.mine ∙ h.idle }

      below_later : (t : Stamp) (w : WriteEntry) → Held opening s (c w.item) → Below (c w.item) t → Below (c' w.item) t
      below_later t w h b =
          let l = st w.item in
          record { key = rw (l.same_up_to h.mine) b.key; time = rw (l.same_wrote h.mine) b.time }

      covered_later : (key : ℕ) (ws : List WriteEntry) (e : ReadEntry) → ((w : WriteEntry) → In w ws → (c w.item).holder ≡ some s) →
          Covered opening S (c e.told.item) key ws e → Covered opening S' (c' e.told.item) key ws e
      covered_later key ws e m h = go h.safe
        where
          go : (key ≤ closed (c e.told.item)) ⊎ Named e.told.item ws → Covered opening S' (c' e.told.item) key ws e
          go (inl p) = record { seen = (grow e.told.item).past key p ∙ h.seen; safe = inl (omega (arith, (grow e.told.item).wider)) }
          go (inr p) = record { seen = (st e.told.item).same-run (rw p.2 at (m p.0 p.1)) key ∙ h.seen; safe = inr p }

      pub seat-later : (seat : Seat) → SeatOk opening S c s seat → SeatOk opening S' c' s seat
      seat-later free h = tt
      seat-later (working rs ws) h =
          record { entries = λ e i. entry_later e (h.entries e i); held = λ w i. held-later w (h.held w i); distinct = h.distinct }
      seat-later (checking t ps rs ws) h =
          record {
            passed = λ e i. covered_later t.key ws e (λ w j. (h.held w j).mine) (h.passed e i);
            entries = λ e i. entry_later e (h.entries e i);
            fits = λ e i. fits-later t e (h.entries e i) (h.fits e i);
            held = λ w i. held-later w (h.held w i);
            below = λ w i. below_later t w (h.held w i) (h.below w i);
            distinct = h.distinct;
          }
      seat-later (storing t ws) h =
          record {
            mine = λ w i. (st w.item).same_holder (h.mine w i);
            due = λ w i. (st w.item).same_due (h.mine w i) ∙ h.due w i;
            distinct = h.distinct;
          }

  -- WHAT IS TO BE SHOWN OF A STEP of seat s, which becomes the seat given
  pub step_inv : (σ : State) (S : List Transaction) (c : ℕ → Version) (s : ℕ) (seat : Seat) → Inv opening σ →
      Sorted S → Right S opening →
      ((item : ℕ) → VersionOk opening S item (c item)) →
      ((item : ℕ) → Grows σ.order S item (σ.version item) (c item)) →
      ((j : ℕ) → j ≢ s → (item : ℕ) → Stays j σ.order S item (σ.version item) (c item)) →
      SeatOk opening S c s seat →
      KeyIsTime seat → ((T : Transaction) → In T S → T.key ≡ T.time) →
      ((item j : ℕ) → (c item).holder ≡ some j → Holds (changed s seat σ.seat j) item) →
      Inv opening (record { order = S; version = c; seat = changed s seat σ.seat })
  step_inv σ S c s seat h so ri ve grow st se at ti ho =
      record {
        sorted = so;
        right = ri;
        versions = ve;
        seats = changed_ind (SeatOk opening S c) s seat σ.seat se
            (λ j n. seat-later σ.order S σ.version c h.versions grow j (st j n) (σ.seat j) (h.seats j));
        by-time = record { seats = changed_ind (λ j z. KeyIsTime z) s seat σ.seat at (λ j n. h.by-time.seats j); sealed = ti };
        holders = ho;
      }

  -- the locks held are those held before
  pub keep_holds : (σ : State) (s : ℕ) (seat : Seat) → Inv opening σ → (item : ℕ) → (Holds (σ.seat s) item → Holds seat item) →
      (j : ℕ) → (σ.version item).holder ≡ some j → Holds (changed s seat σ.seat j) item
  keep_holds σ s seat h item f j e = go (h.holders item j e) (ℕ_discrete j s)
    where
      go : Holds (σ.seat j) item → Dec (j ≡ s) → Holds (changed s seat σ.seat j) item
      go l (yes q) = rw (q, changed-same s seat σ.seat) (f (rw q at l))
      go l (no n) = rw (changed_other s seat σ.seat j n) l

  -- only the seat changes
  pub step-seat : (σ : State) (s : ℕ) (seat : Seat) → Inv opening σ → SeatOk opening σ.order σ.version s seat → KeyIsTime seat →
      ((item : ℕ) → Holds (σ.seat s) item → Holds seat item) →
      Inv opening (record { order = σ.order; version = σ.version; seat = changed s seat σ.seat })
  step-seat σ s seat h se at ho =
      step_inv σ σ.order σ.version s seat h h.sorted h.right h.versions
      (λ item. grows_none σ.order item (σ.version item))
      (λ j n item. stays-none j σ.order item (σ.version item))
      se at h.by-time.sealed (λ item. keep_holds σ s seat h item (ho item))

  -- one version grows, the others stay
  pub grows_one : (σ : State) (item : ℕ) (x : Version) → Grows σ.order σ.order item (σ.version item) x →
      (j : ℕ) → Grows σ.order σ.order j (σ.version j) (changed item x σ.version j)
  grows_one σ item x grow =
      changed_ind (λ j y. Grows σ.order σ.order j (σ.version j) y) item x σ.version grow (λ j n. grows_none σ.order j (σ.version j))

  -- the seat and one version change
  pub step-version : (σ : State) (s : ℕ) (seat : Seat) (item : ℕ) (x : Version) → Inv opening σ →
      VersionOk opening σ.order item x →
      Grows σ.order σ.order item (σ.version item) x →
      ((j : ℕ) → j ≢ s → Stays j σ.order σ.order item (σ.version item) x) →
      SeatOk opening σ.order (changed item x σ.version) s seat → KeyIsTime seat →
      ((q j : ℕ) → (changed item x σ.version q).holder ≡ some j → Holds (changed s seat σ.seat j) q) →
      Inv opening (record { order = σ.order; version = changed item x σ.version; seat = changed s seat σ.seat })
  step-version σ s seat item x h ve grow st se at ho =
      step_inv σ σ.order (changed item x σ.version) s seat h h.sorted h.right
      (changed_ind (VersionOk opening σ.order) item x σ.version ve (λ q n. h.versions q))
      (grows_one σ item x grow)
      (λ j n. changed_ind (λ q y. Stays j σ.order σ.order q (σ.version q) y) item x σ.version (st j n)
      (λ q m. stays-none j σ.order q (σ.version q)))
      se at h.by-time.sealed ho

  -- one version changes that nobody holds
  pub step_unheld : (σ : State) (item : ℕ) (x : Version) → Inv opening σ → (σ.version item).holder ≡ none → x.holder ≡ none →
      VersionOk opening σ.order item x →
      Grows σ.order σ.order item (σ.version item) x →
      Inv opening (record { order = σ.order; version = changed item x σ.version; seat = σ.seat })
  step_unheld σ item x h o p ve grow =
      record {
        sorted = h.sorted;
        right = h.right;
        versions = changed_ind (VersionOk opening σ.order) item x σ.version ve (λ q n. h.versions q);
        seats = λ j. seat-later σ.order σ.order σ.version (changed item x σ.version) h.versions (grows_one σ item x grow) j
            (changed_ind (λ q y. Stays j σ.order σ.order q (σ.version q) y) item x σ.version
            (stays_other j σ.order σ.order item (σ.version item) x (none-some (σ.version item).holder j o))
            (λ q m. stays-none j σ.order q (σ.version q)))
            (σ.seat j) (h.seats j);
        by-time = h.by-time;
        holders = λ q s. changed_ind (λ i y. y.holder ≡ some s → Holds (σ.seat s) i) item x σ.version (λ e. absurd (none-some x.holder s p e))
            (λ i n. h.holders i s) q;
      }

  -- what is due is left at the seat that holds the lock
  pub due_left : (σ : State) → Inv opening σ → (item : ℕ) (d : Due) → (σ.version item).due ≡ some d → (s : ℕ) × StoreLeft (σ.seat s) item
  due_left σ h item d e = go (σ.version item).holder refl
    where
      at_seat : (s : ℕ) (seat : Seat) → SeatOk opening σ.order σ.version s seat → Holds seat item → StoreLeft seat item
      at_seat s free o z = z
      at_seat s (working rs ws) o z = absurd (none-some (σ.version item).due d (rw z.2 at (o.held z.0 z.1).idle) e)
      at_seat s (checking t ok rs ws) o z = absurd (none-some (σ.version item).due d (rw z.2 at (o.held z.0 z.1).idle) e)
      at_seat s (storing t ws) o z = z

      go : (o : Option ℕ) → (σ.version item).holder ≡ o → (s : ℕ) × StoreLeft (σ.seat s) item
      go none q = absurd (none-some (σ.version item).due d ((h.versions item).due_held q) e)
      go (some s) q = (s, at_seat s (σ.seat s) (h.seats s) (h.holders item s q))
