-- 'One Advance', its six cases, and Abandon.
use Rattle.std.specs.Prelude.{ℕ, zero, suc, ◌+◌, max, List, Bool, true, false, cond, not, ◌&&◌, get_or, set, eqb, ltb, leb}
use Rattle.clock.specs.Word.{top, is_locked, write_time, read_time, with_lock, fresh, extended}
use Rattle.rules.specs.Layout.{working, locking, checking, storing, phase_at, position_at, time_at, row, put}
use Rattle.rules.specs.Layout.{phase, position, reads, writes, time, read_item, kept_write, kept_read, write_item, write_value}
use Rattle.rules.specs.Tables.{Tables, Outcome, with_values, with_words, with_seats, answered, unless}
use Rattle.rules.specs.Refusals.{seat_refusal}
use Rattle.rules.specs.Plan.{freed}
use Rattle.rules.specs.Work.{write_of}
use Rattle.rules.specs.Numbers.{word_locked, time_run_out, abort_number}
use Rattle.rules.specs.declared.Abort.TheVariants.{VersionGone, WordBlocked}
use Rattle.rules.specs.declared.Answer.{Answer}
use Rattle.rules.specs.declared.Answer.TheVariants.{Locked, Timed, Checked, Sealed, Stored, Done, Dropped, Refused, Aborted}
use Rattle.rules.specs.declared.Verdict.{Verdict}
use Rattle.rules.specs.declared.Verdict.TheVariants.{Passes, Extends, Fails}

-- how many of its write entries a row in phases 1 to 3 holds the locks of: the first `position`, in phase 3 all
unfoldable pub held_locks : List ℕ → ℕ
held_locks g = cond (eqb (phase g) checking) (writes g) (position g)

-- the words with the locks of a row's first n write entries cleared
unfoldable pub released : List ℕ → List ℕ → ℕ → List ℕ
released words g zero = words
released words g (suc n) =
    set (released words g n) (write_item g n) (with_lock false (get_or (released words g n) (write_item g n) 0))

-- held locks released and the row freed: what an abort and Abandon leave
unfoldable pub let_go : Tables → ℕ → Answer → Outcome
let_go t s a =
    let g : List ℕ = row t.seats s in
    answered a (with_seats (with_words t (released t.words g (held_locks g))) (freed t.seats s))

-- the row in another phase, at another position
unfoldable pub moved : List ℕ → ℕ → ℕ → ℕ → List ℕ
moved seats s ph p = put (put seats s phase_at ph) s position_at p

-- PHASES 1 AND 2, position below writes: lock the word of the write entry at position; already locked: 21
unfoldable pub lock_step : Tables → ℕ → Outcome
lock_step t s =
    let p : ℕ = position (row t.seats s) in
    let item : ℕ = write_item (row t.seats s) p in
    let word : ℕ = get_or t.words item 0 in
    cond (is_locked word) (let_go t s (Aborted word_locked))
    (answered (Locked item) (with_seats (with_words t (set t.words item (with_lock true word))) (moved t.seats s locking (p + 1))))

-- PHASES 1 AND 2, position equal to writes
-- the greatest of 0 and the kept write times of the first n read entries
unfoldable pub seen_time : List ℕ → ℕ → ℕ
seen_time g zero = 0
seen_time g (suc n) = max (seen_time g n) (kept_write g n)

-- the greatest of `from` and one more than the present read time of each of the first n records to be written
unfoldable pub due_time : List ℕ → List ℕ → ℕ → ℕ → ℕ
due_time words g from zero = from
due_time words g from (suc n) = max (due_time words g from n) (read_time (get_or words (write_item g n) 0) + 1)

unfoldable pub commit_time : List ℕ → List ℕ → ℕ
commit_time words g = due_time words g (seen_time g (reads g)) (writes g)

-- the time; above T: 24
unfoldable pub time_step : Tables → ℕ → Outcome
time_step t s =
    let due : ℕ = commit_time t.words (row t.seats s) in
    cond (ltb top due) (let_go t s (Aborted time_run_out))
    (answered (Timed due) (with_seats t (put (moved t.seats s checking 0) s time_at due)))

-- PHASE 3, position below reads: the check of a read entry, from its kept times, the commit time, the word, and whether the seat writes the record too
-- locked, and its read time not above the time
unfoldable pub is_blocked : ℕ → ℕ → Bool
is_blocked word time = is_locked word && leb (read_time word) time

-- by the word, where the kept read time is below the time
unfoldable pub by_word : ℕ → ℕ → ℕ → Bool → Verdict
by_word kept_write time word own =
    cond (not (eqb (write_time word) kept_write)) (Fails VersionGone)
    (cond own Passes
    (cond (is_blocked word time) (Fails WordBlocked)
    (cond (ltb (read_time word) time) Extends Passes)))

unfoldable pub verdict : ℕ → ℕ → ℕ → ℕ → Bool → Verdict
verdict kept_write kept_read time word own = cond (leb time kept_read) Passes (by_word kept_write time word own)

-- the record of the read entry at position
abbrev pub check_item : List ℕ → ℕ
check_item g = read_item g (position g)

-- whether the seat writes it too
unfoldable pub is_own : List ℕ → Bool
is_own g = ltb (write_of g (check_item g)) (writes g)

unfoldable pub judged : Tables → ℕ → Verdict
judged t s =
    let g : List ℕ = row t.seats s in
    verdict (kept_write g (position g)) (kept_read g (position g)) (time g) (get_or t.words (check_item g) 0) (is_own g)

-- the words with that record's word extended to the time
unfoldable pub stretched : List ℕ → List ℕ → List ℕ
stretched words g = set words (check_item g) (extended (get_or words (check_item g) 0) (time g))

-- passing, from a position and its record: position up by one
unfoldable pub passed_to : Tables → ℕ → ℕ → ℕ → Outcome
passed_to t s p item = answered (Checked item) (with_seats t (put t.seats s position_at (p + 1)))

unfoldable pub passed : Tables → ℕ → List ℕ → Outcome
passed t s words =
    let g : List ℕ = row t.seats s in
    passed_to (with_words t words) s (position g) (check_item g)

unfoldable pub ruled : Tables → ℕ → Verdict → Outcome
ruled t s Passes = passed t s t.words
ruled t s Extends = passed t s (stretched t.words (row t.seats s))
ruled t s (Fails why) = let_go t s (Aborted (abort_number why))

unfoldable pub check_step : Tables → ℕ → Outcome
check_step t s = ruled t s (judged t s)

-- PHASE 3, position equal to reads
unfoldable pub seal_step : Tables → ℕ → Outcome
seal_step t s = answered (Sealed (time (row t.seats s))) (with_seats t (moved t.seats s storing 0))

-- PHASE 4, position below writes
-- what a write entry makes of the value then held: its own value
unfoldable pub effect : ℕ → ℕ → ℕ
effect entry value = entry

unfoldable pub store_step : Tables → ℕ → Outcome
store_step t s =
    let g : List ℕ = row t.seats s in
    let item : ℕ = write_item g (position g) in
    let stored : Tables = with_values t (set t.values item (effect (write_value g (position g)) (get_or t.values item 0))) in
    answered (Stored item) (with_seats (with_words stored (set t.words item (fresh (time g)))) (put t.seats s position_at (position g + 1)))

-- PHASE 4, position equal to writes
unfoldable pub done_step : Tables → ℕ → Outcome
done_step t s = answered (Done (time (row t.seats s))) (with_seats t (freed t.seats s))

-- the phases
unfoldable pub lock_phase : Tables → ℕ → Outcome
lock_phase t s =
    cond (ltb (position (row t.seats s)) (writes (row t.seats s))) (lock_step t s) (time_step t s)

unfoldable pub check_phase : Tables → ℕ → Outcome
check_phase t s =
    cond (ltb (position (row t.seats s)) (reads (row t.seats s))) (check_step t s) (seal_step t s)

unfoldable pub store_phase : Tables → ℕ → Outcome
store_phase t s =
    cond (ltb (position (row t.seats s)) (writes (row t.seats s))) (store_step t s) (done_step t s)

-- one step of a row in order, by its phase; a free or damaged one never comes here
unfoldable pub advance_in : Tables → ℕ → Outcome
advance_in t s =
    let ph : ℕ = phase (row t.seats s) in
    cond (eqb ph working) (lock_phase t s)
    (cond (eqb ph locking) (lock_phase t s)
    (cond (eqb ph checking) (check_phase t s)
    (cond (eqb ph storing) (store_phase t s)
    (answered (Refused 3) t))))

-- ADVANCE
unfoldable pub advance : Tables → ℕ → ℕ → Outcome
advance t o s = unless (seat_refusal t o s storing) t (advance_in t s)

-- ABANDON, phases 1 to 3
unfoldable pub abandon : Tables → ℕ → ℕ → Outcome
abandon t o s = unless (seat_refusal t o s checking) t (let_go t s (Dropped s))
