-- A number's text read back: `decimal n` says n, and is the only text of digits with no leading zero that does.
use Rattle.std.specs.Prelude.{ℕ, zero, suc, ◌+◌, ◌-◌, ◌*◌, ◌/◌, ◌%◌, ◌^◌, ◌≤◌, ◌<◌, ◌≡◌, refl, List, [], ◌∷◌, ◌++◌}
use Rattle.std.proofs.Common.{arith, zero-add, add-zero, suc-add, add-suc, mul_assoc, le_trans}
use Rattle.std.proofs.Common.{le-add_right, mul-le-mul_right, ap, sym, ◌∙◌, append_assoc, append-nil}
use Rattle.std.proofs.Math.Decide.{dec_lt, dec_le}
use Rattle.std.proofs.Math.Nat.{pow-succ', pow-le-pow_right}
use Rattle.std.proofs.Math.ListN.{length, get_or-append}
use Rattle.text.specs.Text.{greatest, width_in, width_of, digits, decimal}
use Rattle.text.specs.Puts.{length_digits, length-decimal, width_done, width_next}
use Rattle.text.specs.ReadBack.{read_on, read_back, IsDigits, NoLeadingZero, Shows}
use Rattle.text.specs.ReadBack.IsDigits.{none, digit}

-- FROM THE NUMBER TO THE TEXT
digits_join : {xs ys : List ℕ} → IsDigits xs → IsDigits ys → IsDigits (xs ++ ys)
digits_join none d = d
digits_join (digit lo hi e) d = digit lo hi (digits_join e d)

digits_are : (k n : ℕ) → IsDigits (digits k n)
unfolding digits
digits_are zero n = none
digits_are (suc k) n = digits_join (digits_are k (n / 10)) (digit (omega arith) (omega arith) none)

read_join : (so : ℕ) (xs ys : List ℕ) → read_on so (xs ++ ys) ≡ read_on (read_on so xs) ys
unfolding read_on
read_join so [] ys = refl
read_join so (x ∷ xs) ys = read_join (read_on so (x ∷ [])) xs ys

shows-one : (n : ℕ) → n < 10 → Shows 1 n
unfolding digits read_on
shows-one n h = record { filled = omega arith; says = omega arith; starts = λ p. omega arith }

shows_more : (w n : ℕ) → 10 ≤ n → Shows w (n / 10) → Shows (suc w) n
unfolding digits read_on
shows_more w n h s =
    record {
      filled = omega arith;
      says = read_join 0 (digits w (n / 10)) ((48 + n % 10) ∷ []) ∙ omega (arith, s.says);
      starts = λ p. rw (get_or-append (digits w (n / 10)) _ 0 0 (omega (arith, length_digits w (n / 10)))) (s.starts (omega arith));
    }

shows : (f n : ℕ) → n < 10 ^ suc f → Shows (width_in f n) n
shows zero n h = rw (width_done 0 n (omega arith)) (shows-one n (omega arith))
shows (suc f) n h = go (shows f (n / 10) (omega (arith, pow-succ' 10 (suc f)))) (dec_lt n 10)
  where
    go : Shows (width_in f (n / 10)) (n / 10) → Dec (n < 10) → Shows (width_in (suc f) n) n
    go s (yes l) = rw (width_done (suc f) n l) (shows-one n l)
    go s (no l) = rw (width_next f n (omega arith)) (shows_more (width_in f (n / 10)) n (omega arith) s)

module _ (n : ℕ) (h : n ≤ greatest) where
  shown : Shows (width_of n) n
  unfolding width_of
  shown = shows 19 n (omega arith)

  pub reads_back : read_back (decimal n) ≡ n
  unfolding decimal
  reads_back = shown.says

  pub only_digits : IsDigits (decimal n)
  unfolding decimal
  only_digits = digits_are (width_of n) n

  pub not_empty : 1 ≤ length (decimal n)
  not_empty = omega (arith, length-decimal n, shown.filled)

  pub no_leading_zero : NoLeadingZero (decimal n)
  unfolding decimal width_of
  no_leading_zero e = go (dec_lt n 10)
    where
      go : Dec (n < 10) → length (decimal n) ≡ 1
      go (yes l) = length-decimal n ∙ width_done 19 n l
      go (no l) = absurd (omega (arith, shown.starts (omega arith)))

-- FROM THE TEXT TO THE NUMBER
-- digits read on are the digits of what is read
digits-read : (l so : ℕ) (bs : List ℕ) → IsDigits bs → digits (l + length bs) (read_on so bs) ≡ digits l so ++ bs
unfolding read_on digits
digits-read l so [] none = rw add-zero (sym (append-nil _))
digits-read l so (b ∷ bs) (digit lo hi d) =
    let next : ℕ = so * 10 + (b - 48) in
    let tenth : next / 10 ≡ so = omega arith in
    let last : 48 + next % 10 ≡ b = omega arith in
    let more : digits (suc l) next ≡ digits l so ++ b ∷ [] = rw (tenth, last) in
    ap (λ (k : ℕ). digits k (read_on next bs)) (add-suc l (length bs) ∙ sym (suc-add l (length bs)))
    ∙ digits-read (suc l) next bs d
    ∙ ap (λ (xs : List ℕ). xs ++ bs) more
    ∙ append_assoc (digits l so) (b ∷ []) bs

width_read : (f so : ℕ) (bs : List ℕ) → 1 ≤ so → IsDigits bs → width_in (f + length bs) (read_on so bs) ≡ width_in f so + length bs
unfolding read_on
width_read f so [] p none = rw (add-zero, add-zero)
width_read f so (b ∷ bs) p (digit lo hi d) =
    let next : ℕ = so * 10 + (b - 48) in
    let tenth : next / 10 ≡ so = omega arith in
    let more : width_in (suc f) next ≡ suc (width_in f so) = rw (width_next f next (omega arith), tenth) in
    ap (λ (k : ℕ). width_in k (read_on next bs)) (add-suc f (length bs) ∙ sym (suc-add f (length bs)))
    ∙ width_read (suc f) next bs (omega arith) d
    ∙ omega (arith, more)

least_read : (so : ℕ) (bs : List ℕ) → so * 10 ^ length bs ≤ read_on so bs
unfolding read_on
least_read so [] = omega arith
least_read so (b ∷ bs) =
    le_trans (rw (pow-succ', ← mul_assoc) (mul-le-mul_right (10 ^ length bs) (le-add_right (so * 10) (b - 48)))) (least_read (so * 10 + (b - 48)) bs)

-- a text that says no more than the greatest number has as many digits as the number
width_says : (t : List ℕ) → IsDigits t → 1 ≤ length t → NoLeadingZero t → read_back t ≤ greatest → width_of (read_back t) ≡ length t
unfolding read_on width_of
width_says [] d f z h = absurd (omega arith)
width_says (b ∷ []) (digit lo hi d) f z h = width_done 19 (0 + (b - 48)) (omega arith)
width_says (b ∷ c ∷ bs) (digit lo hi d) f z h =
    let first : 1 ≤ 0 + (b - 48) = go (dec_le 49 b) in
    let few : length (c ∷ bs) ≤ 19 = within first (dec_le (length (c ∷ bs)) 19) in
    let all : (19 - length (c ∷ bs)) + length (c ∷ bs) ≡ 19 = omega arith in
    ap (λ (k : ℕ). width_in k (read_on (0 + (b - 48)) (c ∷ bs))) (sym all)
    ∙ width_read (19 - length (c ∷ bs)) (0 + (b - 48)) (c ∷ bs) first d
    ∙ omega (arith, width_done (19 - length (c ∷ bs)) (0 + (b - 48)) (omega arith))
  where
    go : Dec (49 ≤ b) → 1 ≤ 0 + (b - 48)
    go (yes l) = omega arith
    go (no l) = absurd (omega (arith, z (omega arith)))

    within : 1 ≤ 0 + (b - 48) → Dec (length (c ∷ bs) ≤ 19) → length (c ∷ bs) ≤ 19
    within p (yes l) = l
    within p (no l) =
        let long : 20 ≤ length (c ∷ bs) = omega arith in
        let most : 10 ^ 20 ≤ 10 ^ length (c ∷ bs) = pow-le-pow_right {n = 10} (omega arith) {i = 20} long in
        absurd (omega (arith, least_read (0 + (b - 48)) (c ∷ bs), mul-le-mul_right (10 ^ length (c ∷ bs)) p))

pub only_text : (n : ℕ) → n ≤ greatest → (t : List ℕ) → IsDigits t → 1 ≤ length t → NoLeadingZero t → read_back t ≡ n → t ≡ decimal n
unfolding decimal digits
only_text n h t d f z e =
    let wide : width_of n ≡ length t = ap width_of (sym e) ∙ width_says t d f z (omega arith) in
    sym (rw (wide, ← e) (ap (λ (k : ℕ). digits k (read_back t)) (sym (zero-add (length t))) ∙ digits-read 0 0 t d))
