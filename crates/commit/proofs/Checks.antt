-- The check of a read entry: the verdict, and what it comes to.
use Rattle.std.proofs.Common.{ℕ, ◌≤◌, ◌<◌, ◌≡◌, refl, sym, Bool, true, false, cond, not, List, arith, eqb-true, le-leb, eqb, ltb, get_or, set}
use Rattle.std.proofs.lemmas.Bool.{lt-leb}
use Rattle.clock.specs.Word.{top, write_time, extended}
use Rattle.rules.specs.Layout.{row, writes, read_item, kept_read}
use Rattle.rules.specs.Tables.{Tables, with_words}
use Rattle.rules.specs.Work.{write_of}
use Rattle.rules.specs.Advance.{let_go, by_word, verdict, is_own, judged, passed_to, passed, stretched, ruled, check_step}
use Rattle.rules.specs.declared.Answer.TheVariants.{Aborted}
use Rattle.rules.specs.Numbers.{abort_number}
use Rattle.rules.specs.declared.Abort.{Abort}
use Rattle.rules.specs.declared.Abort.TheVariants.{VersionGone}
use Rattle.rules.specs.declared.Verdict.{Verdict}
use Rattle.rules.specs.declared.Verdict.TheVariants.{Passes, Extends, Fails}
use Rattle.rows.specs.Fine.{kept_below, time-top}
use Rattle.seats.specs.Entries.{IsRead}
use Rattle.seats.specs.Heads.{HeadOf}
use Rattle.seats.specs.declared.Head.{Head}
use Rattle.seats.specs.declared.ReadEntry.{ReadEntry}
use Rattle.commit.specs.declared.Step.{Step}
use Rattle.commit.specs.Steps.{ChecksWord}

module _ (t : Tables) (s : ℕ) {h : Head} (q : HeadOf (row t.seats s) h) where
  abbrev g : List ℕ
  g = row t.seats s

  -- THE VERDICT: an entry whose kept read time covers the time passes; otherwise the word decides
  pub judged_covered : h.time ≤ kept_read g h.position → judged t s ≡ Passes
  unfolding judged verdict
  judged_covered l = simp (← q.position_is, ← q.time_is, le-leb _ _ l)

  pub judged_word : {e : ReadEntry} {word : ℕ} {own : Bool} {found : Verdict} → IsRead g h.position e → e.kept_read < h.time →
      word ≡ get_or t.words e.item 0 → own ≡ ltb (write_of g e.item) (writes g) →
      found ≡ by_word e.kept_write h.time word own → judged t s ≡ found
  unfolding judged verdict is_own
  judged_word {e} r l d o f =
      let uncovered : kept_read g h.position < h.time = omega (arith, r.kept_read_is) in
      simp (← q.position_is, ← q.time_is, lt-leb _ _ uncovered, ← r.item_is, ← r.kept_write_is, ← d, ← o) (sym f)

  -- WHAT IT COMES TO, of the record at position
  module _ {item : ℕ} (i : item ≡ read_item g h.position) where
    passed_is : (words : List ℕ) → passed_to (with_words t words) s h.position item ≡ passed t s words
    unfolding passed
    passed_is words = simp (← q.position_is, ← i)

    pub check_passes : judged t s ≡ Passes → passed_to t s h.position item ≡ check_step t s
    unfolding check_step ruled
    check_passes e = rw e (passed_is t.words)

    pub check_extends : {word longer : ℕ} {words' : List ℕ} → judged t s ≡ Extends → word ≡ get_or t.words item 0 →
        longer ≡ extended word h.time → words' ≡ set t.words item longer → passed_to (with_words t words') s h.position item ≡ check_step t s
    unfolding check_step ruled stretched
    check_extends {words' = words'} e d l z = rw e (simp (← q.position_is, ← q.time_is, ← i, ← d, ← l, ← z) (passed_is words'))

pub check_fails : (t : Tables) (s : ℕ) {why : Abort} → judged t s ≡ Fails why → let_go t s (Aborted (abort_number why)) ≡ check_step t s
unfolding check_step ruled
check_fails t s e = rw e refl

-- a word that is extended has the write time that was kept
not_extends : (why : Abort) → Fails why ≡ Extends → ⊥
not_extends why e = let z : ◌≡◌ {A = ℕ} 0 1 = cc in omega arith

pub extends_kept : (kept_w time word : ℕ) (own : Bool) → by_word kept_w time word own ≡ Extends → write_time word ≡ kept_w
unfolding by_word
extends_kept kept_w time word own e = eqb-true (write_time word) kept_w (go (eqb (write_time word) kept_w) _ e)
  where
    go : (b : Bool) (o : Verdict) → cond (not b) (Fails VersionGone) o ≡ Extends → b ≡ true
    go true o q = refl
    go false o q = absurd (not_extends VersionGone q)

-- the clock takes the time: it is not above T, nor below the word's write time
pub may_extend : {s : Step} {e : ReadEntry} (word : ℕ) → ChecksWord s e →
    write_time word ≡ e.kept_write → (write_time word ≤ s.head.time) × (s.head.time ≤ top)
may_extend {s} word r w =
    let q = r.in_use.head in
    let entry = r.entry_is in
    let kept = kept_below _ _ r.in_use.sound s.head.position (omega arith) (omega arith) in
    let late = time-top _ _ r.in_use.sound (omega arith) in
    (omega arith, omega arith)
