-- A record's value along the serial run: `run_to u S item v` is what the transactions of S with keys up to u make of v.
-- The laws say what placing one more transaction changes: nothing below its key, nothing of records that it does not write, and from its key on
-- its own effect, where no later one writes the record.
use Prim.Native.Nat.{ℕ, ◌≤◌, ◌<◌}
use mathlib.Core.Path.{◌≡◌, refl, sym, ap, ◌∙◌}
use mathlib.Core.Logic.{◌⊎◌, inl, inr, ⊎_elim, ◌≢◌}
use mathlib.Core.Bool.{cond}
use mathlib.Core.List.Memᴰ.{head as here}
use mathlib.Core.List.Memᴰ.{tail as there}
use mathlib.Core.List.{List, [], ◌∷◌, ◌++◌, Memᴰ as In}
use mathlib.Core.List.Memᴰ.{append_cases}
use mathlib.Core.List.Memᴰ.{cases_cons as uncons}
use mathlib.Core.List.Memᴰ.{not-nil}
use mathlib.Core.List.Memᴰ.{eq_of_singleton}
use native.Mathlib.Decide.{ℕ_discrete}
use borrow.Author.Tests.{eq-eqb, ne_eqb, le-leb, lt-leb}
use lib.Dec.{leb}
use Rattle.rows.specs.Fine.{cond_ind}
use Rattle.observer.specs.Observer.{FirstRead, WriteEntry, Transaction}
use Rattle.serial.specs.Statement.{Values, applied, written, values_after, values_after_all, Right, precedes, ranked}
use Rattle.serial.specs.Order.{Sorted}
use Rattle.serial.proofs.Order.{all_later, precedes_yes, precedes_no}

-- WRITE ENTRIES: one names the record, or none does; and no two name the same
abbrev pub Named : ℕ → List WriteEntry → Type 0
Named item ws = (w : WriteEntry) × In w ws × (w.item ≡ item)

abbrev pub Absent : ℕ → List WriteEntry → Type 0
Absent item ws = (w : WriteEntry) → In w ws → w.item ≢ item

unfoldable pub Distinct : List WriteEntry → Type 0
Distinct [] = Unit {0}
Distinct (w ∷ ws) = Absent w.item ws × Distinct ws

pub find : (item : ℕ) (ws : List WriteEntry) → Named item ws ⊎ Absent item ws
find item [] = inr (λ w i. absurd (not-nil i))
find item (w ∷ ws) = go (ℕ_discrete w.item item) (find item ws)
  where
    go : Dec (w.item ≡ item) → Named item ws ⊎ Absent item ws → Named item (w ∷ ws) ⊎ Absent item (w ∷ ws)
    go (yes p) o = inl (w, here refl, p)
    go (no n) (inl t) = inl (t.0, there t.1, t.2)
    go (no n) (inr a) = inr (λ v i. ⊎_elim (λ (p : v ≡ w) q. n (cc)) (λ (j : In v ws). a v j) (uncons i))

pub distinct_same : (ws : List WriteEntry) (v w : WriteEntry) → Distinct ws → In v ws → In w ws → v.item ≡ w.item → v ≡ w
unfolding Distinct
distinct_same [] v w d i _ e = elim i [ ]
distinct_same (z ∷ ws) v w d (here p) (here q) e = p ∙ sym q
distinct_same (z ∷ ws) v w d (here p) (there j) e = absurd (d.0 w j (cc))
distinct_same (z ∷ ws) v w d (there i) (here q) e = absurd (d.0 v i (cc))
distinct_same (z ∷ ws) v w d (there i) (there j) e = distinct_same ws v w d.1 i j e

pub distinct_more : (ws : List WriteEntry) (w : WriteEntry) → Distinct ws → ((v : WriteEntry) → In v ws → v.item ≢ w.item) → Distinct (ws ++ (w ∷ []))
unfolding Distinct
distinct_more [] w d n = (λ v i. absurd (not-nil i), tt)
distinct_more (z ∷ ws) w d n = (
  λ v i e. ⊎_elim (λ (j : In v ws). d.0 v j e) (λ (j : In v (w ∷ [])). n z (here refl) (sym e ∙ ap (λ (y : WriteEntry). y.item) (eq_of_singleton j)))
      (append_cases ws i),
  distinct_more ws w d.1 (λ v i. n v (there i)),
)

-- what entries make of a value: nothing where none names the record, the effect of the one that does
pub written_absent : (ws : List WriteEntry) (item v : ℕ) → Absent item ws → written ws item v ≡ v
unfolding written
written_absent [] item v n = refl
written_absent (w ∷ ws) item v n = rw (ne_eqb w.item item (n w (here refl))) (written_absent ws item v (λ z i. n z (there i)))

pub written-named : (ws : List WriteEntry) (w : WriteEntry) (item v : ℕ) → Distinct ws → In w ws → w.item ≡ item → written ws item v ≡ applied w v
unfolding written Distinct
written-named [] w item v d i q = elim i [ ]
written-named (z ∷ ws) w item v d (here p) q =
    rw (eq-eqb z.item item (cc)) (written_absent ws item (applied z v) (λ y i e. d.0 y i (cc)) ∙ ap (λ (y : WriteEntry). applied y v) (sym p))
written-named (z ∷ ws) w item v d (there i) q =
    rw (ne_eqb z.item item (λ e. d.0 w i (cc))) (written-named ws w item v d.1 i q)

-- A RECORD'S VALUE after a transaction if its key is up to u, and after the transactions with keys up to u
abbrev one_to : ℕ → Transaction → ℕ → ℕ → ℕ
one_to u T item v = cond (leb T.key u) (written T.writes item v) v

unfoldable pub run_to : ℕ → List Transaction → ℕ → ℕ → ℕ
run_to u [] item v = v
run_to u (T ∷ S) item v = run_to u S item (one_to u T item v)

module _ (u : ℕ) (T : Transaction) (item v : ℕ) where
  one_up : T.key ≤ u → one_to u T item v ≡ written T.writes item v
  one_up h = rw (le-leb T.key u h)

  one-late : u < T.key → one_to u T item v ≡ v
  one-late h = rw (lt-leb T.key u h)

  one_absent : Absent item T.writes → one_to u T item v ≡ v
  one_absent a = cond_ind (λ (z : ℕ). z ≡ v) (leb T.key u) (λ _. written_absent T.writes item v a) (λ _. refl)

module _ (u : ℕ) where
  -- none of S writes the record
  run_to_quiet : (S : List Transaction) (item v : ℕ) → ((U : Transaction) → In U S → Absent item U.writes) → run_to u S item v ≡ v
  unfolding run_to
  run_to_quiet [] item v h = refl
  run_to_quiet (T ∷ S) item v h =
      ap (run_to u S item) (one_absent u T item v (h T (here refl))) ∙ run_to_quiet S item v (λ U i. h U (there i))

  -- all of S are later than u
  run_to-late : (S : List Transaction) (item v : ℕ) → ((U : Transaction) → In U S → u < U.key) → run_to u S item v ≡ v
  unfolding run_to
  run_to-late [] item v h = refl
  run_to-late (T ∷ S) item v h = ap (run_to u S item) (one-late u T item v (h T (here refl))) ∙ run_to-late S item v (λ U i. h U (there i))

  -- none of S is later than u
  pub run_to_all : (S : List Transaction) (f : Values) (item : ℕ) → ((U : Transaction) → In U S → U.key ≤ u)
      → run_to u S item (f item) ≡ values_after_all S f item
  unfolding run_to values_after_all
  run_to_all [] f item h = refl
  run_to_all (T ∷ S) f item h = ap (run_to u S item) (one_up u T item (f item) (h T (here refl))) ∙ run_to_all S (values_after T f) item (λ U i. h U (there i))

-- PLACING T
module _ (T : Transaction) where
  -- nothing below its key changes
  pub run_to_below : (S : List Transaction) (u item v : ℕ) → u < T.key → run_to u (ranked T S) item v ≡ run_to u S item v
  unfolding ranked run_to
  run_to_below [] u item v h = one-late u T item v h
  run_to_below (Z ∷ S) u item v h =
      cond_ind (λ (l : List Transaction). run_to u l item v ≡ run_to u (Z ∷ S) item v) (precedes Z T)
      (λ _. run_to_below S u item _ h) (λ _. ap (run_to u (Z ∷ S) item) (one-late u T item v h))

  -- nothing of a record that it does not write
  pub run_to_absent : (S : List Transaction) (u item v : ℕ) → Absent item T.writes → run_to u (ranked T S) item v ≡ run_to u S item v
  unfolding ranked run_to
  run_to_absent [] u item v a = one_absent u T item v a
  run_to_absent (Z ∷ S) u item v a =
      cond_ind (λ (l : List Transaction). run_to u l item v ≡ run_to u (Z ∷ S) item v) (precedes Z T)
      (λ _. run_to_absent S u item _ a) (λ _. ap (run_to u (Z ∷ S) item) (one_absent u T item v a))

  -- where no later one writes the record, its effect comes last
  pub run_to-above : (S : List Transaction) (u item v : ℕ) → T.key ≤ u → Sorted S → ((U : Transaction) → In U S → T.key < U.key → Absent item U.writes) →
      run_to u (ranked T S) item v ≡ written T.writes item (run_to u S item v)
  unfolding ranked run_to Sorted
  run_to-above [] u item v h s q = one_up u T item v h
  run_to-above (Z ∷ S) u item v h s q =
      cond_ind (λ (l : List Transaction). run_to u l item v ≡ written T.writes item (run_to u (Z ∷ S) item v)) (precedes Z T)
      (λ _. run_to-above S u item _ h s.1 (λ U i. q U (there i)))
      (λ a. ap (run_to u (Z ∷ S) item) (one_up u T item v h)
      ∙ run_to_quiet u (Z ∷ S) item (written T.writes item v) (quiet (precedes_no Z T a))
      ∙ ap (written T.writes item) (sym (run_to_quiet u (Z ∷ S) item v (quiet (precedes_no Z T a)))))
    where
      quiet : T.key < Z.key → (U : Transaction) → In U (Z ∷ S) → Absent item U.writes
      quiet l U i = q U i (all_later T.key Z S s l U i)

-- reads stay right over values that agree on what is read
right_same : (S : List Transaction) (f g : Values) → ((U : Transaction) → In U S → (e : FirstRead) → In e U.reads → g e.item ≡ f e.item) →
    Right S f → Right S g
unfolding Right
right_same [] f g h t = tt
right_same (U ∷ S) f g h t = (
  λ e i. cc (h U (here refl) e i, t.0 e i),
  right_same S (values_after U f) (values_after U g) (λ Z j e i. ap (written U.writes e.item) (h Z (there j) e i)) t.1,
)

-- T MAY BE RANKED: its reads are right at its key, and no later one reads what it writes
pub right_ranked : (T : Transaction) (S : List Transaction) (f : Values) → Sorted S →
    ((e : FirstRead) → In e T.reads → run_to T.key S e.item (f e.item) ≡ e.value) →
    ((U : Transaction) → In U S → T.key < U.key → (e : FirstRead) → In e U.reads → Absent e.item T.writes) →
    Right S f → Right (ranked T S) f
unfolding Right ranked run_to Sorted
right_ranked T [] f s h q t = (h, tt)
right_ranked T (Z ∷ S) f s h q t =
    cond_ind (λ (l : List Transaction). Right l f) (precedes Z T)
    (λ a. (
      t.0,
      right_ranked T S (values_after Z f) s.1
          (λ e i. ap (run_to T.key S e.item) (sym (one_up T.key Z e.item (f e.item) (precedes_yes Z T a))) ∙ h e i) (λ U i. q U (there i)) t.1,
    ))
    (λ a. (
      λ e i. sym (run_to-late T.key (Z ∷ S) e.item (f e.item) (late (precedes_no Z T a))) ∙ h e i,
      right_same (Z ∷ S) f (values_after T f) (λ U i e j. written_absent T.writes e.item (f e.item) (q U i (late (precedes_no Z T a) U i) e j)) t,
    ))
  where
    late : T.key < Z.key → (U : Transaction) → In U (Z ∷ S) → T.key < U.key
    late = all_later T.key Z S s
