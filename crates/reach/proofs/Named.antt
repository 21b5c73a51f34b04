-- Which records a run of entries names, be they write or read entries: laws of `named`, and of the locks that a row holds.
use Prim.Native.Nat.{ℕ, ◌<◌, ◌≤◌}
use mathlib.Core.Path.{◌≡◌, refl, sym, ◌∙◌}
use mathlib.Core.Bool.{Bool, true, false, ◌&&◌, true≢false}
use mathlib.Core.List.{List}
use native.Mathlib.Omega.{arith}
use borrow.Author.Tests.{le-leb, leb-true, eqb-true, eq-eqb, ltb-true}
use lib.Dec.{leb, eqb}
use Rattle.rules.specs.Tests.{first}
use Rattle.rules.specs.Layout.{write_item}
use Rattle.rows.specs.Search.{first_hit}
use Rattle.rows.specs.Fine.{both}
use Rattle.reach.specs.Invariants.{lock_from, lock_to, Names}
use Rattle.reach.proofs.Tests.{by, same_test, some-any}
use Rattle.reach.proofs.InOrder.{named, locks}

pub named_yes : (e : ℕ → ℕ) (lo hi item i : ℕ) → Names e lo hi item i → named e lo hi item ≡ true
unfolding named
named_yes e lo hi item i h = some-any _ hi i h.below (rw (le-leb lo i h.from, eq-eqb _ _ h.named) refl)

pub named-has : (e : ℕ → ℕ) (lo hi item : ℕ) → named e lo hi item ≡ true → (i : ℕ) × Names e lo hi item i
unfolding named
named-has e lo hi item y =
    let p : ℕ → Bool = λ i. leb lo i && eqb (e i) item in
    let l : first p hi < hi = ltb-true (first p hi) hi y in
    let q = both _ _ (first_hit p hi l) in
    (first p hi, record { from = leb-true _ _ q.0; below = l; named = eqb-true _ _ q.1 })

pub named_no : (e : ℕ → ℕ) (lo hi item : ℕ) → ((i : ℕ) → Names e lo hi item i → ⊥) → named e lo hi item ≡ false
named_no e lo hi item h = by (named e lo hi item) (λ y. let q = named-has e lo hi item y in absurd (h q.0 q.1)) (λ y. y)

pub named_none : (e : ℕ → ℕ) (lo hi item i : ℕ) → named e lo hi item ≡ false → Names e lo hi item i → ⊥
named_none e lo hi item i y h = true≢false (sym (named_yes e lo hi item i h) ∙ y)

-- two runs that name the record at the same entries
pub named-same : (e d : ℕ → ℕ) (lo hi lo' hi' item : ℕ) → ((i : ℕ) → Names e lo hi item i → Names d lo' hi' item i) →
    ((i : ℕ) → Names d lo' hi' item i → Names e lo hi item i) → named d lo' hi' item ≡ named e lo hi item
named-same e d lo hi lo' hi' item f k =
    same_test _ _
    (λ y. let q = named-has d lo' hi' item y in named_yes e lo hi item q.0 (k q.0 q.1))
    (λ y. let q = named-has e lo hi item y in named_yes d lo' hi' item q.0 (f q.0 q.1))

pub named_alike : (e d : ℕ → ℕ) (lo hi lo' hi' : ℕ) → lo' ≡ lo → hi' ≡ hi → ((i : ℕ) → i < hi → d i ≡ e i) → (item : ℕ) →
    named d lo' hi' item ≡ named e lo hi item
named_alike e d lo hi lo' hi' a b same item =
    named-same e d lo hi lo' hi' item
    (λ i n. record { from = rw a n.from; below = rw b n.below; named = same i n.below ∙ n.named })
    (λ i n. let l : i < hi = rw b at n.below in record { from = rw a at n.from; below = l; named = sym (same i l) ∙ n.named })

pub named_empty : (e : ℕ → ℕ) (lo hi item : ℕ) → hi ≤ lo → named e lo hi item ≡ false
named_empty e lo hi item h = named_no e lo hi item (λ i q. let a = q.from in let b = q.below in omega arith)

-- LOCKS: the same ends, the same entries; none
pub locks-same : (g h : List ℕ) → lock_from h ≡ lock_from g → lock_to h ≡ lock_to g → ((i : ℕ) → i < lock_to g → write_item h i ≡ write_item g i) →
    (item : ℕ) → locks h item ≡ locks g item
unfolding locks
locks-same g h a b e item = named_alike (write_item g) (write_item h) (lock_from g) (lock_to g) (lock_from h) (lock_to h) a b e item

pub locks-none : (g : List ℕ) (item : ℕ) → lock_to g ≤ lock_from g → locks g item ≡ false
unfolding locks
locks-none g item h = named_empty (write_item g) _ _ item h
