-- A search over a range, as the library runs it, is a search of the rules.
use Rattle.std.specs.Prelude.{ℕ, ◌+◌, ◌<◌, ◌≤◌, ◌≡◌, refl, Bool, true, false, List, length, slice_index_or, Option, Some, None, MatchOption, ⊤}
use Rattle.std.specs.Bool.{MatchBool}
use Rattle.std.specs.List.{range_with_len, FoldsTo, HoldsAt, AllWithin}
use Rattle.std.specs.Fn.{Called, CalledAt}
use Rattle.std.specs.Iterator.{YieldsThen}
use Rattle.std.proofs.Common.{sym, ◌∙◌, subst, arith, lt-ltb}
use denote.Param.Members.{Mut}
use denote.Ref.{Bor}
use Rattle.std.specs.declared.ops.Range.{Range}
use Rattle.std.proofs.iter.Yields.{nat_range_steps}
use Rattle.std.proofs.lemmas.Iterator.{YieldsList-from_range, cases_from_any, first_from_Range}
use Rattle.std.proofs.lemmas.List.FromFn.{length-range_with_len, get_or-range_with_len}
use Rattle.rules.specs.Tests.{any}
use Rattle.rows.specs.Search.{first_is, some_any, none_any}
use Rattle.seats.specs.Search.{found}

-- the numbers below n, as a list has them
number_at : (n k : ℕ) → k < n → slice_index_or (range_with_len 0 n) k 0 ≡ k
number_at n k l = get_or-range_with_len 0 n k 0 l ∙ (let e : 0 + k ≡ k = omega arith in e)

module _ {F : Type 0} (p : ℕ → Bool) (n : ℕ) (u : Range ℕ) (f : F) where
  -- the numbers below n, as the range yields them
  abbrev pub below : Range ℕ
  below = record { start = 0; end = n }

  -- whether one passes, where the closure says what p says of each number below n
  any_is : (r : Bool) → (let all : List ℕ = range_with_len 0 n in
      MatchBool r ((k : ℕ) × (k < length all) × HoldsAt (λ o. o < n → p o ≡ true) all k) (AllWithin (λ o. o < n → p o ≡ false) all 0 (length all))) →
      r ≡ any p n
  any_is true (k, l, h) =
      let low : k < n = omega (arith, length-range_with_len 0 n) in
      sym (some_any p n k low (subst (λ o. o < n → p o ≡ true) (number_at n k low) (h 0) low))
  any_is false h =
      sym (none_any p n (λ k l. subst (λ o. o < n → p o ≡ false) (number_at n k l) (h k 0 (omega arith) (omega (arith, length-range_with_len 0 n))) l))

  module _ {g : Mut F (ℕ × Unit {0}) Bool} (r : Bool)
      (ran : (xs : List ℕ) × (o : Option ℕ) × (j : F) × YieldsThen nat_range_steps below xs o u × FoldsTo (λ p x q. Called g p (x, tt) false q) f xs j
      × MatchOption o (r ≡ false) (λ x. (r ≡ true) × ((h : F) × Called g j (x, tt) true h))) where
    pub any_below : ((x : ℕ) (b : Bool) (q : F) → Called g f (x, tt) b q → (q ≡ f) × (x < n → b ≡ p x)) → r ≡ any p n
    any_below is =
        any_is r
        (cases_from_any u f r (λ o. o < n → p o ≡ true) (λ o. o < n → p o ≡ false) ran (YieldsList-from_range 0 n n refl (omega arith))
        (λ o q c l. sym ((is o true q c).1 l))
        (λ o q c. ((is o false q c).0, λ l. sym ((is o false q c).1 l))))

    pub any_in_range : ((x : ℕ) (b : Bool) (q : F) → Called g f (x, tt) b q → (q ≡ f) × (b ≡ p x)) → r ≡ any p n
    any_in_range is = any_below (λ x b q c. ((is x b q c).0, λ l. (is x b q c).1))

  -- what is found: the first that passes, where one does
  abbrev fails_below : ℕ → Type 0
  fails_below i = (k : ℕ) → 0 ≤ k → k < i → p k ≡ false

  found_is : (r : Option ℕ) → MatchOption r (fails_below n) (λ i. (0 ≤ i) × (i < n) × (p i ≡ true) × fails_below i) → r ≡ found p n
  found_is None h = rw (none_any p n (λ k l. h k (omega arith) l)) refl
  found_is (Some i) h = rw (first_is p n i h.1 h.2 (λ k l. h.3 k (omega arith) l), lt-ltb i n h.1) refl

  pub found_in_range : {g : Mut F (Bor ℕ × Unit {0}) Bool} (r : Option ℕ)
      → (xs : List ℕ) × (j : F) × YieldsThen nat_range_steps below xs r u × FoldsTo (λ p x q. CalledAt g p x false q) f xs j
      × MatchOption r ⊤ (λ x. (h : F) × CalledAt g j x true h)
      → ((x : ℕ) (b : Bool) (q : F) → CalledAt g f x b q → (q ≡ f) × (b ≡ p x)) → r ≡ found p n
  found_in_range r ran is =
      found_is r
      (first_from_Range below u f r (λ x. p x ≡ true) (λ x. p x ≡ false) ran
      (λ x q c. sym (is x true q c).1)
      (λ x q c. ((is x false q c).0, sym (is x false q c).1)))
