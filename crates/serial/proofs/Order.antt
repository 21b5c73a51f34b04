-- The serial order is what the statement says, and no other list is: the theorems of specs/Order.
use Prim.Native.Nat.{ℕ, ◌≤◌, ◌<◌}
use mathlib.Core.Path.{◌≡◌, refl, sym, ap, ◌∙◌}
use mathlib.Core.Logic.{◌⊎◌, inl, inr, ⊎_elim}
use mathlib.Core.Bool.{Bool, true, false, cond}
use mathlib.Core.List.{List, [], ◌∷◌, ◌++◌, append_assoc, append-nil, nil≢cons, head-eq_of_cons-eq, tail-eq_of_cons-eq, Memᴰ as In}
use mathlib.Core.List.Memᴰ.{cases_cons as uncons}
use mathlib.Core.List.Memᴰ.{head as here}
use mathlib.Core.List.Memᴰ.{not-nil}
use mathlib.Core.List.Memᴰ.{tail as there}
use mathlib.Core.List.Memᴰ.{eq_of_singleton}
use mathlib.Core.List.Permᴰ.{cons as perm-cons}
use mathlib.Core.List.Permᴰ.{swap as perm-swap}
use mathlib.Core.List.{Permᴰ as Permutation}
use mathlib.Core.List.Permᴰ.{middle as perm_middle}
use mathlib.Core.List.Permᴰ.{refl as perm-refl}
use mathlib.Core.List.Permᴰ.{trans as perm-trans}
use mathlib.Core.List.Permᴰ.{append-nil as perm-nil}
use mathlib.Core.List.Permᴰ.{append_right as perm-append}
use native.Mathlib.Omega.{arith}
use native.Mathlib.Decide.{dec_lt}
use borrow.Author.Tests.{eqb-true, leb-true, leb-false, eq-eqb, ne_eqb}
use lib.Dec.{eqb}
use Rattle.rows.specs.Fine.{cond_ind}
use Rattle.observer.specs.Observer.{Transaction}
use Rattle.serial.specs.Statement.{precedes, ranked, all_ranked, serial}
use Rattle.serial.specs.Order.{Sorted, with_key, SerialOrdered, OneOrder}

-- where the first key is greater than k, every key is
pub all_later : (k : ℕ) (Z : Transaction) (S : List Transaction) → Sorted (Z ∷ S) → k < Z.key → (U : Transaction) → In U (Z ∷ S) → k < U.key
unfolding Sorted
all_later k Z S s l U i = ⊎_elim (λ (e : U ≡ Z). rw e l) (λ (j : In U S). let h = s.0 U j in omega arith) (uncons i)

-- a later one goes behind those whose key is not greater, and before the others
pub precedes_yes : (U T : Transaction) → precedes U T ≡ true → U.key ≤ T.key
unfolding precedes
precedes_yes U T e = omega (arith, leb-true)

pub precedes_no : (U T : Transaction) → precedes U T ≡ false → T.key < U.key
unfolding precedes
precedes_no U T e = omega (arith, leb-false)

-- ONE RANKED
module _ (T : Transaction) where
  pub in_ranked : (S : List Transaction) (U : Transaction) → In U (ranked T S) → (U ≡ T) ⊎ In U S
  unfolding ranked
  in_ranked [] U i = inl (eq_of_singleton i)
  in_ranked (Z ∷ S) U i =
      cond_ind (λ (l : List Transaction). In U l → (U ≡ T) ⊎ In U (Z ∷ S)) (precedes Z T)
      (λ _ i. ⊎_elim (λ (e : U ≡ Z). inr (here e))
      (λ (j : In U (ranked T S)). ⊎_elim (λ (e : U ≡ T). inl e) (λ (m : In U S). inr (there m)) (in_ranked S U j)) (uncons i))
      (λ _ i. uncons i)
      i

  pub sorted_ranked : (S : List Transaction) → Sorted S → Sorted (ranked T S)
  unfolding ranked Sorted
  sorted_ranked [] s = (λ U i. absurd (not-nil i), tt)
  sorted_ranked (Z ∷ S) s =
      cond_ind Sorted (precedes Z T)
      (λ a. (λ U i. ⊎_elim (λ (e : U ≡ T). rw e (precedes_yes Z T a)) (λ (j : In U S). s.0 U j) (in_ranked S U i), sorted_ranked S s.1))
      (λ a. (λ U i. let h = all_later T.key Z S s (precedes_no Z T a) U i in omega arith, s))

  permuted_ranked : (S : List Transaction) → Permutation (T ∷ S) (ranked T S)
  unfolding ranked
  permuted_ranked [] = perm-refl (T ∷ [])
  permuted_ranked (Z ∷ S) =
      cond_ind (Permutation (T ∷ Z ∷ S)) (precedes Z T) (λ _. perm-trans (perm-swap refl refl) (perm-cons refl (permuted_ranked S)))
      (λ _. perm-refl (T ∷ Z ∷ S))

-- all that are ranked are there
ranked_in : (T U : Transaction) (S : List Transaction) → (U ≡ T) ⊎ In U S → In U (ranked T S)
unfolding ranked
ranked_in T U [] i = ⊎_elim (λ (e : U ≡ T). here e) (λ (j : In U []). absurd (not-nil j)) i
ranked_in T U (Z ∷ S) i =
    cond_ind (In U) (precedes Z T)
    (λ _. ⊎_elim (λ (e : U ≡ T). there (ranked_in T U S (inl e)))
    (λ (j : In U (Z ∷ S)). ⊎_elim (λ (e : U ≡ Z). here e) (λ (k : In U S). there (ranked_in T U S (inr k))) (uncons j)) i)
    (λ _. ⊎_elim (λ (e : U ≡ T). here e) (λ (j : In U (Z ∷ S)). there j) i)

pub in_serial : (U : Transaction) (sealed : List Transaction) → In U sealed → In U (serial sealed)
unfolding all_ranked
in_serial U sealed i = go sealed [] (inr i)
  where
    go : (Ts S : List Transaction) → In U S ⊎ In U Ts → In U (all_ranked S Ts)
    go [] S i = ⊎_elim (λ (j : In U S). j) (λ (j : In U []). absurd (not-nil j)) i
    go (T ∷ Ts) S i = go Ts (ranked T S) (⊎_elim
        (λ (j : In U S). inl (ranked_in T U S (inr j)))
        (λ (j : In U (T ∷ Ts)). ⊎_elim (λ (e : U ≡ T). inl (ranked_in T U S (inl e))) (λ (k : In U Ts). inr k) (uncons j)) i)

-- where every key is greater, none is k
none_with : (k : ℕ) (S : List Transaction) → ((U : Transaction) → In U S → k < U.key) → with_key k S ≡ []
unfolding with_key
none_with k [] h = refl
none_with k (T ∷ S) h = rw (ne_eqb T.key k (λ e. let l = h T (here refl) in omega arith)) (none_with k S (λ U i. h U (there i)))

-- T stands behind all of its key
stable_ranked : (T : Transaction) (k : ℕ) (S : List Transaction) → Sorted S → with_key k (ranked T S) ≡ with_key k S ++ with_key k (T ∷ [])
unfolding ranked with_key Sorted
stable_ranked T k [] s = refl
stable_ranked T k (Z ∷ S) s =
    cond_ind (λ (l : List Transaction). with_key k l ≡ with_key k (Z ∷ S) ++ with_key k (T ∷ [])) (precedes Z T)
    (λ _. within (eqb Z.key k) (stable_ranked T k S s.1))
    (λ a. first (eqb T.key k) refl (precedes_no Z T a))
  where
    within : (b : Bool) → with_key k (ranked T S) ≡ with_key k S ++ with_key k (T ∷ []) →
        cond b (Z ∷ with_key k (ranked T S)) (with_key k (ranked T S)) ≡ cond b (Z ∷ with_key k S) (with_key k S) ++ with_key k (T ∷ [])
    within true e = ap (λ (l : List Transaction). Z ∷ l) e
    within false e = e

    first : (b : Bool) → eqb T.key k ≡ b → T.key < Z.key → cond b (T ∷ with_key k (Z ∷ S)) (with_key k (Z ∷ S)) ≡ with_key k (Z ∷ S) ++ cond b (T ∷ []) []
    first true q l =
        let e : T.key ≡ k = eqb-true _ _ q in rw (none_with k (Z ∷ S) (all_later k Z S s (omega arith)))
    first false q l = sym (append-nil (with_key k (Z ∷ S)))

-- ALL RANKED
sorted_all : (Ts S : List Transaction) → Sorted S → Sorted (all_ranked S Ts)
unfolding all_ranked
sorted_all [] S s = s
sorted_all (T ∷ Ts) S s = sorted_all Ts (ranked T S) (sorted_ranked T S s)

permuted_all : (Ts S : List Transaction) → Permutation (S ++ Ts) (all_ranked S Ts)
unfolding all_ranked
permuted_all [] S = perm-nil S
permuted_all (T ∷ Ts) S = perm-trans (perm_middle T S Ts) (perm-trans (perm-append Ts (permuted_ranked T S)) (permuted_all Ts (ranked T S)))

stable_all : (k : ℕ) (Ts S : List Transaction) → Sorted S → with_key k (all_ranked S Ts) ≡ with_key k S ++ with_key k Ts
unfolding all_ranked with_key
stable_all k [] S s = sym (append-nil (with_key k S))
stable_all k (T ∷ Ts) S s =
    stable_all k Ts (ranked T S) (sorted_ranked T S s)
    ∙ ap (λ (l : List Transaction). l ++ with_key k Ts) (stable_ranked T k S s)
    ∙ append_assoc (with_key k S) (with_key k (T ∷ [])) (with_key k Ts)
    ∙ ap (λ (l : List Transaction). with_key k S ++ l) (go (eqb T.key k))
  where
    go : (b : Bool) → cond b (T ∷ []) [] ++ with_key k Ts ≡ cond b (T ∷ with_key k Ts) (with_key k Ts)
    go true = refl
    go false = refl

-- THE SERIAL ORDER is ordered so
pub serial_ordered : SerialOrdered
unfolding Sorted with_key
serial_ordered sealed =
    record { sorted = sorted_all sealed [] tt; permuted = permuted_all sealed []; stable = λ k. stable_all k sealed [] tt }

-- one sealed last is ranked last
pub serial_more : (S : List Transaction) (T : Transaction) → serial (S ++ (T ∷ [])) ≡ ranked T (serial S)
unfolding all_ranked
serial_more S T = go S []
  where
    go : (S Z : List Transaction) → all_ranked Z (S ++ (T ∷ [])) ≡ ranked T (all_ranked Z S)
    go [] Z = refl
    go (U ∷ S) Z = go S (ranked U Z)

-- AND NO OTHER LIST IS
with_head : (T : Transaction) (S : List Transaction) → with_key T.key (T ∷ S) ≡ T ∷ with_key T.key S
unfolding with_key
with_head T S = rw (eq-eqb T.key T.key refl)

with_none : (k : ℕ) → with_key k [] ≡ []
unfolding with_key
with_none k = refl

with_same : (k : ℕ) (T : Transaction) (S Z : List Transaction) → with_key k (T ∷ S) ≡ with_key k (T ∷ Z) → with_key k S ≡ with_key k Z
unfolding with_key
with_same k T S Z = go (eqb T.key k)
  where
    go : (b : Bool) → cond b (T ∷ with_key k S) (with_key k S) ≡ cond b (T ∷ with_key k Z) (with_key k Z) → with_key k S ≡ with_key k Z
    go true e = tail-eq_of_cons-eq e
    go false e = e

-- the first of one is not later than the first of the other
not-later : (T U : Transaction) (S Z : List Transaction) → Sorted (U ∷ Z) → with_key T.key (T ∷ S) ≡ with_key T.key (U ∷ Z) → U.key ≤ T.key
not-later T U S Z s e = go (dec_lt T.key U.key)
  where
    go : Dec (T.key < U.key) → U.key ≤ T.key
    go (no n) = omega arith
    go (yes l) =
        absurd (nil≢cons (sym (none_with T.key (U ∷ Z) (all_later T.key U Z s l)) ∙ sym e ∙ with_head T S))

same_order : (S Z : List Transaction) → Sorted S → Sorted Z → ((k : ℕ) → with_key k S ≡ with_key k Z) → S ≡ Z
unfolding Sorted
same_order [] [] s z e = refl
same_order [] (U ∷ Z) s z e = absurd (nil≢cons (sym (with_none U.key) ∙ e U.key ∙ with_head U Z))
same_order (T ∷ S) [] s z e = absurd (nil≢cons (sym (with_none T.key) ∙ sym (e T.key) ∙ with_head T S))
same_order (T ∷ S) (U ∷ Z) s z e =
    let k : T.key ≡ U.key = (let a = not-later T U S Z z (e T.key) in let b = not-later U T Z S s (sym (e U.key)) in omega arith) in
    let h : T ≡ U = head-eq_of_cons-eq (sym (with_head T S) ∙ e T.key ∙ ap (λ (n : ℕ). with_key n (U ∷ Z)) k ∙ with_head U Z) in
    let t : S ≡ Z = same_order S Z s.1 z.1 (λ n. with_same n U S Z (rw h at (e n))) in
    λ i. h i ∷ t i

pub one_order : OneOrder
one_order sealed S Z a b = same_order S Z a.sorted b.sorted (λ k. a.stable k ∙ sym (b.stable k))
