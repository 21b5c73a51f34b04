-- What the chains and the loop over a row's entries come to: the times that they gather, and the locks that they release.
use Rattle.std.proofs.Common.{ℕ, zero, suc, ◌+◌, max, ◌≡◌, ◌∙◌, ap, sym, refl, false, List, [], ◌∷◌, map, get_or, set, add-one, arith}
use Rattle.std.specs.List.{fold, range_with_len}
use Rattle.std.proofs.lemmas.List.FromFn.{map-range_with_len_more}
use Rattle.std.proofs.lemmas.List.Sums.{fold-append}
use Rattle.clock.specs.Word.{read_time, with_lock}
use Rattle.rules.specs.Layout.{kept_write, write_item}
use Rattle.rules.specs.Advance.{released, seen_time, due_time}

-- a fold over the numbers below n + 1 takes number n last
fold_more : (h : ℕ → ℕ → ℕ) (f : ℕ → ℕ) (a n : ℕ) →
    fold h a (map f (range_with_len 0 (suc n))) ≡ h (fold h a (map f (range_with_len 0 n))) (f n)
fold_more h f a n =
    ap (λ (k : ℕ). fold h a (map f (range_with_len 0 k))) (sym (add-one n))
    ∙ ap (fold h a) (map-range_with_len_more f 0 n n (omega arith))
    ∙ fold-append h a (map f (range_with_len 0 n)) (f n ∷ [])

-- the greatest of the kept write times
pub seen_is : (g : List ℕ) (n : ℕ) → fold max 0 (map (kept_write g) (range_with_len 0 n)) ≡ seen_time g n
unfolding seen_time
seen_is g zero = refl
seen_is g (suc n) = fold_more max (kept_write g) 0 n ∙ rw (seen_is g n)

-- one more than the present read time of a record to be written
abbrev pub due_by : List ℕ → List ℕ → ℕ → ℕ
due_by words g i = read_time (get_or words (write_item g i) 0) + 1

-- the greatest of them
pub due_is : (words g : List ℕ) (from n : ℕ) → fold max from (map (due_by words g) (range_with_len 0 n)) ≡ due_time words g from n
unfolding due_time
due_is words g from zero = refl
due_is words g from (suc n) = fold_more max (due_by words g) from n ∙ rw (due_is words g from n)

-- the locks
pub released-none : (words g : List ℕ) → words ≡ released words g 0
unfolding released
released-none words g = refl

pub released_more : (words₀ g : List ℕ) (i : ℕ) {words words' : List ℕ} {item word free : ℕ} → words ≡ released words₀ g i →
    item ≡ write_item g i → word ≡ get_or words item 0 → free ≡ with_lock false word → words' ≡ set words item free →
    words' ≡ released words₀ g (i + 1)
unfolding released
released_more words₀ g i e x y u m = rw (add-one i) (cc)
