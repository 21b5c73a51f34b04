-- Setup's start: the clock's answer to it says whether it is above T.
use Rattle.std.specs.Prelude.{ℕ, ◌<◌, ◌≡◌, true, false, ltb, Result, Ok, Err, is_ok}
use Rattle.std.proofs.Common.{sym, ap, ◌∙◌, true≢false, arith, lt-ltb, le-ltb}
use Rattle.std.proofs.Math.Decide.{dec_lt}
use Rattle.clock.specs.declared.Unfit.{Unfit}
use Rattle.clock.specs.Word.{top, fresh, fresh_at}
use Rattle.clock.proofs.Laws.{fresh_at_word, fresh_at-late}

module _ (t : ℕ) {p : Result ℕ Unfit} (e : p ≡ fresh_at t) where
  pub late-start : {why : Unfit} → p ≡ Err why → ltb top t ≡ true
  late-start k = by (dec_lt top t)
    where
      by : Dec (top < t) → ltb top t ≡ true
      by (yes l) = lt-ltb top t l
      by (no l) = absurd (true≢false (ap is_ok (sym (e ∙ fresh_at_word t (omega arith)) ∙ k)))

  pub good_start : {w : ℕ} → p ≡ Ok w → (ltb top t ≡ false) × (w ≡ fresh t)
  good_start {w} k = by (dec_lt top t)
    where
      by : Dec (top < t) → (ltb top t ≡ false) × (w ≡ fresh t)
      by (yes l) = absurd (true≢false (ap is_ok (sym k ∙ e ∙ fresh_at-late t l)))
      by (no l) = let q = fresh_at_word t (omega arith) in (le-ltb top t (omega arith), cc)
