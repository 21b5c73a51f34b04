-- P1 to P4 of document 01, and both sides of each limit of the word, computed from the definitions.
use Rattle.std.specs.Prelude.{ℕ, ◌≡◌, refl, true, false, List, [], ◌∷◌, Result, Ok, Err}
use Rattle.clock.specs.declared.Unfit.{Unfit}
use Rattle.clock.specs.Word.{distance_span, time_span, top, lock_bit, distance, write_time, is_locked, word_of, fresh, extended}
use Rattle.clock.specs.Word.{number, packed, fresh_at, extended_to}

-- an answer in numbers: a word is itself, its write time and its distance; a refusal its number alone
unfoldable pub shows : Result ℕ Unfit → List ℕ
shows (Err e) = number e ∷ []
shows (Ok w) = w ∷ write_time w ∷ distance w ∷ []

unfoldable pub word_cases : List (List ℕ)
word_cases =
    shows (packed true 5 3)
    ∷ shows (extended_to (fresh 2) 32769)
    ∷ shows (extended_to (fresh 2) 32770)
    ∷ shows (extended_to (fresh 2) 32771)
    ∷ []

unfoldable pub word_due : List (List ℕ)
word_due =
    (9224779411738329091 ∷ 3 ∷ 5 ∷ [])
    ∷ (9223090561878065154 ∷ 2 ∷ 32767 ∷ [])
    ∷ (32770 ∷ 32770 ∷ 0 ∷ [])
    ∷ (281474976743426 ∷ 32770 ∷ 1 ∷ [])
    ∷ []

pub word_cases_lem : word_cases ≡ word_due
unfolding word_cases word_due shows distance_span time_span top lock_bit is_locked distance write_time word_of fresh extended packed fresh_at extended_to
word_cases_lem = refl

-- the greatest distance and the greatest time are taken, one more is refused
unfoldable pub limit_cases : List (List ℕ)
limit_cases =
    shows (packed false 32767 0)
    ∷ shows (packed false 32768 0)
    ∷ shows (packed false 0 281474976710655)
    ∷ shows (packed false 0 281474976710656)
    ∷ shows (fresh_at 281474976710655)
    ∷ shows (fresh_at 281474976710656)
    ∷ shows (extended_to (fresh 281474976710655) 281474976710655)
    ∷ shows (extended_to (fresh 281474976710655) 281474976710656)
    ∷ shows (extended_to (fresh 2) 1)
    ∷ []

unfoldable pub limit_due : List (List ℕ)
limit_due =
    (9223090561878065152 ∷ 0 ∷ 32767 ∷ [])
    ∷ (2 ∷ [])
    ∷ (281474976710655 ∷ 281474976710655 ∷ 0 ∷ [])
    ∷ (2 ∷ [])
    ∷ (281474976710655 ∷ 281474976710655 ∷ 0 ∷ [])
    ∷ (2 ∷ [])
    ∷ (281474976710655 ∷ 281474976710655 ∷ 0 ∷ [])
    ∷ (2 ∷ [])
    ∷ (2 ∷ [])
    ∷ []

pub limit_cases_lem : limit_cases ≡ limit_due
unfolding limit_cases limit_due shows distance_span time_span top lock_bit is_locked distance write_time word_of fresh extended packed fresh_at extended_to
limit_cases_lem = refl
