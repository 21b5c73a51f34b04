-- P1 to P10 of document 01 as one table under one theorem, `table`, over real tables of 5536 numbers; Tape X with its fourteen answers beside it.
use Rattle.std.specs.Prelude.{ℕ, ◌≡◌, List, [], ◌∷◌, ◌++◌, replicate}
use Rattle.std.proofs.Common.{ap}
use Rattle.clock.specs.Word.{distance_span, time_span, top, lock_bit, is_locked, distance, write_time, read_time, word_of, with_lock, fresh, extended}
use Rattle.clock.specs.Cases.{word_cases, word_due, word_cases_lem}
use Rattle.rules.specs.Tests.{scan, sum_to, one_of, first_of}
use Rattle.rules.specs.Layout.{seats_length, row, put, reads}
use Rattle.rules.specs.Tables.{Tables, tables}
use Rattle.rules.specs.Refusals.{unsized, misnamed, misplaced, late, bad_read, bad_write, bad_head, bad_entry, damaged, foreign, row_refusal, refusal}
use Rattle.rules.specs.Plan.{bad_share, bad_plan, setup_refusal, laid, setup, bad_row, is_free, free_seat, cleared, opened}
use Rattle.rules.specs.Work.{read_names, write_names, read_of, write_of, read_noted, first_read, read_in, read, above, place_of, slid, placed, write_in, write}
use Rattle.rules.specs.Advance.{held_locks, released, let_go, moved, lock_step, seen_time, due_time, commit_time, time_step, lock_phase}
use Rattle.rules.specs.Advance.{is_blocked, by_word, verdict, is_own, judged, stretched, passed_to, passed, ruled, check_step, seal_step, check_phase}
use Rattle.rules.specs.Advance.{effect, store_step, done_step, store_phase, advance_in, advance, abandon}
use Rattle.rules.specs.Calls.{Call, Setup, Open, Read, Write, Advance, run, told, answers}
use Rattle.cases.specs.Quick.{counted, quick_held, refusal_by, quick_open, quick_step, quick_run, quick_run_lem, quick_history, quick_history_lem}
use Rattle.rules.specs.declared.Answer.{Answer}
use Rattle.rules.specs.declared.Answer.TheVariants.{Ready, Seat, Value, Noted, Locked, Timed, Checked, Sealed, Stored, Done, Aborted}

-- two records of value 0, nothing set up
unfoldable pub blank : Tables
blank = tables (0 ∷ 0 ∷ []) (0 ∷ 0 ∷ []) (replicate seats_length 0)

-- owners 0 and 1 with share 1 and limit 2, the others 0
unfoldable pub plan : List ℕ
plan = 1 ∷ 1 ∷ (replicate 14 0 ++ (2 ∷ 2 ∷ replicate 14 0))

-- what a worked case computes with, part by part: `unfolding computed` opens all of it
unfoldable words : Unit {0}
unfolding distance_span time_span top lock_bit is_locked distance write_time read_time word_of with_lock fresh extended
words = tt

unfoldable tests : Unit {0}
unfolding scan sum_to one_of first_of row put unsized misnamed misplaced late bad_read bad_write bad_head bad_entry damaged foreign row_refusal refusal
tests = tt

unfoldable plans : Unit {0}
unfolding bad_share bad_plan setup_refusal laid setup bad_row is_free free_seat cleared opened quick_held counted refusal_by quick_open
plans = tt

unfoldable works : Unit {0}
unfolding read_names write_names read_of write_of read_noted first_read read_in read above place_of slid placed write_in write
works = tt

unfoldable locks : Unit {0}
unfolding held_locks released let_go moved lock_step seen_time due_time commit_time time_step lock_phase abandon
locks = tt

unfoldable checks : Unit {0}
unfolding is_blocked by_word verdict is_own judged stretched passed_to passed ruled check_step seal_step check_phase advance_in advance
checks = tt

unfoldable stores : Unit {0}
unfolding effect store_step done_step store_phase
stores = tt

unfoldable pub computed : Unit {0}
unfolding words tests plans works locks checks stores blank plan told quick_step quick_run quick_history
computed = tt

-- a case: a start, the calls after Setup, and the answers after Ready
pub record Case : Type 0 where
  pub start : ℕ
  pub calls : List Call
  pub due : List Answer

abbrev pub tape : Case → List Call
tape c = Setup c.start plan ∷ c.calls

abbrev pub Plays : Case → Type 0
Plays c = answers blank (tape c) ≡ Ready 2 ∷ c.due

-- no reads or writes: Timed 0, Sealed 0, Done 0
abbrev pub P5 : Case
P5 = record {
  start = 7;
  calls = Open 0 ∷ Advance 0 0 ∷ Advance 0 0 ∷ Advance 0 0 ∷ [];
  due = Seat 0 ∷ Timed 0 ∷ Sealed 0 ∷ Done 0 ∷ [];
}

-- start T, one write: Locked, then 24
abbrev pub P6 : Case
P6 = record {
  start = 281474976710655;
  calls = Open 0 ∷ Write 0 0 0 1 ∷ Advance 0 0 ∷ Advance 0 0 ∷ [];
  due = Seat 0 ∷ Noted 0 ∷ Locked 0 ∷ Aborted 24 ∷ [];
}

-- start T, one read: Done T
abbrev pub P7 : Case
P7 = record {
  start = 281474976710655;
  calls = Open 0 ∷ Read 0 0 0 ∷ Advance 0 0 ∷ Advance 0 0 ∷ Advance 0 0 ∷ Advance 0 0 ∷ [];
  due = Seat 0 ∷ Value 0 ∷ Timed 281474976710655 ∷ Checked 0 ∷ Sealed 281474976710655 ∷ Done 281474976710655 ∷ [];
}

-- A reads 0 and writes 1, B reads 1 and writes 0; both lock, both Timed 1; A's check is aborted 23; then B's passes and B is Done 1
abbrev pub P8 : Case
P8 = record {
  start = 0;
  calls =
      Open 0 ∷ Open 1 ∷ Read 0 0 0 ∷ Write 0 0 1 5 ∷ Read 1 1 1 ∷ Write 1 1 0 6
      ∷ Advance 0 0 ∷ Advance 1 1 ∷ Advance 0 0 ∷ Advance 1 1
      ∷ Advance 0 0 ∷ Advance 1 1 ∷ Advance 1 1 ∷ Advance 1 1 ∷ Advance 1 1 ∷ [];
  due =
      Seat 0 ∷ Seat 1 ∷ Value 0 ∷ Noted 1 ∷ Value 0 ∷ Noted 0
      ∷ Locked 1 ∷ Locked 0 ∷ Timed 1 ∷ Timed 1
      ∷ Aborted 23 ∷ Checked 1 ∷ Sealed 1 ∷ Stored 0 ∷ Done 1 ∷ [];
}

-- Tape X, but seat 0 also writes record 1 before seat 1's Advances: its check of record 0 is aborted 22
abbrev pub P9 : Case
P9 = record {
  start = 2;
  calls =
      Open 0 ∷ Open 1 ∷ Read 0 0 0 ∷ Write 1 1 0 7 ∷ Write 0 0 1 9
      ∷ Advance 1 1 ∷ Advance 1 1 ∷ Advance 1 1 ∷ Advance 1 1 ∷ Advance 1 1
      ∷ Advance 0 0 ∷ Advance 0 0 ∷ Advance 0 0 ∷ [];
  due =
      Seat 0 ∷ Seat 1 ∷ Value 0 ∷ Noted 0 ∷ Noted 1
      ∷ Locked 0 ∷ Timed 3 ∷ Sealed 3 ∷ Stored 0 ∷ Done 3
      ∷ Locked 1 ∷ Timed 3 ∷ Aborted 22 ∷ [];
}

-- a pending write of 9 is read back as 9, with no read entry
abbrev pub P10 : Case
P10 = record {
  start = 2;
  calls = Open 0 ∷ Write 0 0 1 9 ∷ Read 0 0 1 ∷ [];
  due = Seat 0 ∷ Noted 1 ∷ Value 9 ∷ [];
}

abbrev pub NoReadEntry : Case → Type 0
NoReadEntry c = reads (row (run blank (tape c)).seats 0) ≡ 0

-- Tape X: seat 0 is sealed last, at the earlier time
abbrev pub TapeX : Case
TapeX = record {
  start = 2;
  calls =
      Open 0 ∷ Open 1 ∷ Read 0 0 0 ∷ Write 1 1 0 7
      ∷ Advance 1 1 ∷ Advance 1 1 ∷ Advance 1 1 ∷ Advance 1 1 ∷ Advance 1 1
      ∷ Advance 0 0 ∷ Advance 0 0 ∷ Advance 0 0 ∷ Advance 0 0 ∷ [];
  due =
      Seat 0 ∷ Seat 1 ∷ Value 0 ∷ Noted 0
      ∷ Locked 0 ∷ Timed 3 ∷ Sealed 3 ∷ Stored 0 ∷ Done 3
      ∷ Timed 2 ∷ Checked 0 ∷ Sealed 2 ∷ Done 2 ∷ [];
}

-- a seat that reads and writes one record meets its own lock, and passes
abbrev pub OwnLock : Case
OwnLock =
    record {
      start = 0;
      calls = Open 0 ∷ Read 0 0 0 ∷ Write 0 0 0 4 ∷ Advance 0 0 ∷ Advance 0 0 ∷ Advance 0 0 ∷ Advance 0 0 ∷ [];
      due = Seat 0 ∷ Value 0 ∷ Noted 0 ∷ Locked 0 ∷ Timed 1 ∷ Checked 0 ∷ Sealed 1 ∷ [];
    }

plays_P5 : Plays P5
unfolding computed
plays_P5 = ap told (quick_history_lem blank (tape P5))

plays_P6 : Plays P6
unfolding computed
plays_P6 = ap told (quick_history_lem blank (tape P6))

plays_P7 : Plays P7
unfolding computed
plays_P7 = ap told (quick_history_lem blank (tape P7))

plays_P8 : Plays P8
unfolding computed
plays_P8 = ap told (quick_history_lem blank (tape P8))

plays_P9 : Plays P9
unfolding computed
plays_P9 = ap told (quick_history_lem blank (tape P9))

plays_P10 : Plays P10
unfolding computed
plays_P10 = ap told (quick_history_lem blank (tape P10))

no_read_entry : NoReadEntry P10
unfolding computed
no_read_entry = ap (λ (t : Tables). reads (row t.seats 0)) (quick_run_lem blank (tape P10))

-- THE TABLE
pub table :
    (word_cases ≡ word_due) × Plays P5 × Plays P6 × Plays P7 × Plays P8 × Plays P9 × (Plays P10 × NoReadEntry P10)
table = (word_cases_lem, plays_P5, plays_P6, plays_P7, plays_P8, plays_P9, (plays_P10, no_read_entry))

pub tape_x : Plays TapeX
unfolding computed
tape_x = ap told (quick_history_lem blank (tape TapeX))

pub own_lock : Plays OwnLock
unfolding computed
own_lock = ap told (quick_history_lem blank (tape OwnLock))
