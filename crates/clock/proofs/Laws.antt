-- What callers may rest on: the laws of the clock word. A caller unfolds no definition of `Word`.
-- `Is w lock write read` (specs/Laws) is all that is to be known of a word; each way of making a word has its `Is`.
use Rattle.std.specs.Prelude.{ℕ, ◌+◌, ◌-◌, ◌*◌, ◌/◌, ◌%◌, ◌^◌, ◌≤◌, ◌<◌, ◌≡◌, refl, Bool, true, false, Ok, Err}
use Rattle.std.proofs.Common.{ap, ◌∙◌, arith, eq-eqb, ne_eqb, lt-ltb, le-ltb, le-leb}
use Rattle.std.proofs.lemmas.Bool.{lt-leb}
use Rattle.std.proofs.Math.Bool.{and-false}
use Rattle.std.proofs.Math.Decide.{dec_lt}
use Rattle.clock.specs.declared.Unfit.{Unfit}
use Rattle.clock.specs.declared.Unfit.TheVariants.{OutOfRange}
use Rattle.clock.specs.Word.{distance_span, time_span, top, lock_bit, is_locked, distance, write_time, read_time, bit, word_of, with_lock}
use Rattle.clock.specs.Word.{number, fresh, extended, packed, fresh_at, extended_to}
use Rattle.clock.specs.Laws.{Is}

-- the ranges
pub distance_small : (w : ℕ) → distance w < distance_span
unfolding distance distance_span
distance_small w = omega arith

pub write_time_small : (w : ℕ) → write_time w ≤ top
unfolding write_time top time_span
write_time_small w = omega arith

pub write≤read : (w : ℕ) → write_time w ≤ read_time w
unfolding read_time
write≤read w = omega arith

pub read_time-fits : (w : ℕ) → read_time w < 2 ^ 63
unfolding read_time write_time distance time_span distance_span
read_time-fits w = omega arith

-- the word of given parts
pub bit_small : (b : Bool) → bit b ≤ 1
bit_small true = omega arith
bit_small false = omega arith

pub word_is_locked : (b : Bool) (d t : ℕ) → d < distance_span → t ≤ top → is_locked (word_of b d t) ≡ b
unfolding is_locked word_of lock_bit distance_span time_span top
word_is_locked true d t hd ht = eq-eqb (word_of true d t / lock_bit) 1 (omega arith)
word_is_locked false d t hd ht = ne_eqb (word_of false d t / lock_bit) 1 (λ e. omega arith)

pub word_distance : (b : Bool) (d t : ℕ) → d < distance_span → t ≤ top → distance (word_of b d t) ≡ d
unfolding distance word_of lock_bit distance_span time_span top
word_distance b d t hd ht = omega arith

pub word_is : (b : Bool) (d t : ℕ) → d < distance_span → t ≤ top → Is (word_of b d t) b t (t + d)
unfolding read_time write_time distance word_of lock_bit distance_span time_span top
word_is b d t hd ht =
    record {
      fits = omega (arith, bit_small b);
      is_locked = word_is_locked b d t hd ht;
      is_written = omega arith;
      is_read = omega arith;
    }

-- a word read apart and put together again is the same word
bit_lock : (w : ℕ) → w < 2 ^ 64 → bit (is_locked w) ≡ w / lock_bit
unfolding is_locked lock_bit distance_span time_span
bit_lock w h = by (dec_lt w lock_bit)
  where
    by : Dec (w < lock_bit) → bit (is_locked w) ≡ w / lock_bit
    by (yes l) = rw (ne_eqb (w / lock_bit) 1 (λ e. omega arith)) (omega arith)
    by (no l) = rw (eq-eqb (w / lock_bit) 1 (omega arith)) (omega arith)

pub word_parts : (w : ℕ) → w < 2 ^ 64 → word_of (is_locked w) (distance w) (write_time w) ≡ w
unfolding word_of distance write_time lock_bit distance_span time_span
word_parts w h = omega (arith, bit_lock w h)

-- two words of the same meaning are the same
pub is_same : {w v : ℕ} {b : Bool} {t r : ℕ} → Is w b t r → Is v b t r → w ≡ v
unfolding read_time
is_same {w} {v} p q =
    let d : distance w ≡ distance v = omega arith in
    cc (word_parts w p.fits, word_parts v q.fits)

-- lock and unlock, fresh, extend
pub with_lock_is : (b : Bool) (w : ℕ) → Is (with_lock b w) b (write_time w) (read_time w)
unfolding with_lock read_time
with_lock_is b w = word_is b (distance w) (write_time w) (distance_small w) (write_time_small w)

pub with_lock_twice : (a b : Bool) (w : ℕ) → with_lock a (with_lock b w) ≡ with_lock a w
unfolding with_lock
with_lock_twice a b w =
    let same-distance = word_distance b (distance w) (write_time w) (distance_small w) (write_time_small w) in
    let same_word = word_is b (distance w) (write_time w) (distance_small w) (write_time_small w) in
    cc (same-distance, same_word.is_written)

pub with_lock-same : (w : ℕ) → w < 2 ^ 64 → with_lock (is_locked w) w ≡ w
unfolding with_lock
with_lock-same = word_parts

pub with_lock_back : (w : ℕ) → w < 2 ^ 64 → is_locked w ≡ false → with_lock false (with_lock true w) ≡ w
with_lock_back w h l = rw (with_lock_twice, ← l) (with_lock-same w h)

pub fresh_is : (t : ℕ) → t ≤ top → Is (fresh t) false t t
unfolding fresh distance_span
fresh_is t h =
    let p : Is (word_of false 0 t) false t (t + 0) = word_is false 0 t (omega arith) h in
    record { fits = p.fits; is_locked = p.is_locked; is_written = p.is_written; is_read = omega arith }

module _ (w t : ℕ) (lo : write_time w ≤ t) (hi : t ≤ top) where
  extended_word : Is (extended w t) (is_locked w) (write_time w + (t - write_time w) / distance_span * distance_span) t
  unfolding extended distance_span
  extended_word =
      let d : ℕ = t - write_time w in
      let p = word_is (is_locked w) (d % distance_span) (write_time w + d / distance_span * distance_span) (omega arith) (omega arith) in
      record { fits = p.fits; is_locked = p.is_locked; is_written = p.is_written; is_read = omega arith }

  pub extended_is : Is (extended w t) (is_locked w) (write_time (extended w t)) t
  extended_is =
      record {
        fits = extended_word.fits;
        is_locked = extended_word.is_locked;
        is_written = refl;
        is_read = extended_word.is_read;
      }

  pub extended_grows : write_time w ≤ write_time (extended w t)
  unfolding distance_span
  extended_grows = omega (arith, extended_word)

  pub extended_near : t < write_time w + distance_span → write_time (extended w t) ≡ write_time w
  unfolding distance_span
  extended_near h = omega (arith, extended_word)

  pub extended_far : write_time w + distance_span ≤ t → write_time w < write_time (extended w t)
  unfolding distance_span
  extended_far h = omega (arith, extended_word)

-- the answers
module _ (b : Bool) (d t : ℕ) where
  pub packed_word : d < distance_span → t ≤ top → packed b d t ≡ Ok (word_of b d t)
  unfolding packed
  packed_word hd ht = simp (lt-ltb d distance_span hd, le-leb t top ht)

  pub packed_far : distance_span ≤ d → packed b d t ≡ Err OutOfRange
  unfolding packed
  packed_far hd = simp (le-ltb d distance_span hd)

  pub packed-late : top < t → packed b d t ≡ Err OutOfRange
  unfolding packed
  packed-late ht = simp (lt-leb t top ht, and-false)

-- whatever the clock refuses, it refuses for 2
pub refuses_two : (why : Unfit) → number why ≡ 2
refuses_two OutOfRange = refl

pub packed_parts : (w : ℕ) → w < 2 ^ 64 → packed (is_locked w) (distance w) (write_time w) ≡ Ok w
packed_parts w h = packed_word _ _ _ (distance_small w) (write_time_small w) ∙ ap Ok (word_parts w h)

pub fresh_at_word : (t : ℕ) → t ≤ top → fresh_at t ≡ Ok (fresh t)
unfolding fresh_at
fresh_at_word t h = simp (le-leb t top h)

pub fresh_at-late : (t : ℕ) → top < t → fresh_at t ≡ Err OutOfRange
unfolding fresh_at
fresh_at-late t h = simp (lt-leb t top h)

module _ (w t : ℕ) where
  pub extended_to_word : write_time w ≤ t → t ≤ top → extended_to w t ≡ Ok (extended w t)
  unfolding extended_to
  extended_to_word lo hi = simp (le-leb (write_time w) t lo, le-leb t top hi)

  pub extended_to_early : t < write_time w → extended_to w t ≡ Err OutOfRange
  unfolding extended_to
  extended_to_early h = simp (lt-leb (write_time w) t h)

  pub extended_to-late : top < t → extended_to w t ≡ Err OutOfRange
  unfolding extended_to
  extended_to-late h = simp (lt-leb t top h, and-false)
