-- What callers may rest on: how a step's numbers grow, how much room its text needs, and that the next step starts where it ended. Assumes nothing.
use Rattle.std.specs.Prelude.{ℕ, ◌+◌, ◌≤◌, ◌≡◌, Bool, List, ◌++◌, eqb, length, drop, get_or}
use Rattle.std.proofs.Common.{arith, le_refl, length-drop, length-append}
use Rattle.std.proofs.Math.Seq.{take-append_seam}
use Rattle.text.specs.Text.{width_in, width_of}
use Rattle.rules.specs.Layout.{most_records}
use Rattle.rows.specs.Fine.{cond_ind}
use Rattle.turns.specs.declared.Tables.{Tables}
use Rattle.turns.specs.Lent.{lent_in}
use Rattle.turns.specs.Faults.{no_version, stop_line}
use Rattle.turns.specs.Turns.{last_room}
use Rattle.turns.specs.Laws.{stop_line_lem}
use Rattle.tape.specs.Lines.{State, version, first_offset}
use Rattle.tape.specs.Runs.{grown}
use Rattle.tape.specs.Promises.{room_for}
use Rattle.tape.specs.Room.{text_room, end_line_lem}
use Rattle.flow.specs.declared.Flow.{Flow}
use Rattle.flow.specs.Parts.{Stand, Step, onward, opened, stepped, closing}
use Rattle.flow.specs.Promises.{stand_of, Went}

-- what a step over n bytes holds to, those that waited counted
pub record Held (s : State) (n : ℕ) (o : Step) : Type 0 where
  pub offset : o.stand.state.offset + length o.stand.left ≤ s.offset + n
  pub calls : s.calls ≤ s.offset → o.stand.state.calls ≤ o.stand.state.offset
  pub records : s.records ≤ most_records → o.stand.state.records ≤ most_records
  pub fits : length o.text ≤ room_for n

held_onward : (s : State) (t : List ℕ) (n : ℕ) → length t ≤ n → Held s n (onward s t)
held_onward s t n h =
    let g = grown (length t) s t (le_refl (length t)) in
    record {
      offset = omega (arith, g.offset);
      calls = λ k. omega (arith, g.calls);
      records = g.records;
      fits = omega (arith, text_room (length t) s t (le_refl (length t)));
    }

pub no_version_room : length (stop_line no_version 0) ≤ last_room
no_version_room = stop_line_lem no_version 0 (unfold width_of width_in in omega arith)

held-opened : (s : State) (t : List ℕ) → Held s (length t) (opened s t)
unfolding opened
held-opened s t =
    cond_ind (Held s (length t)) (eqb (length t) 0) (λ _. record { offset = omega arith; calls = λ k. k; records = λ k. k; fits = omega arith }) (λ _.
    cond_ind (Held s (length t)) (eqb (get_or t 0 0) version)
    (λ _. held_onward s (drop first_offset t) (length t) (omega (arith, length-drop first_offset t))) (λ _.
    record { offset = omega arith; calls = λ k. k; records = λ k. k; fits = omega (arith, no_version_room) }))

pub held : (s : Stand) (p : List ℕ) → Held s.state (length (s.left ++ p)) (stepped s p)
unfolding stepped
held s p =
    cond_ind (Held s.state (length (s.left ++ p))) s.stopped
    (λ _. record { offset = omega (arith, length-append s.left p); calls = λ k. k; records = λ k. k; fits = omega arith }) (λ _.
    cond_ind (Held s.state (length (s.left ++ p))) s.begun (λ _. held_onward s.state (s.left ++ p) _ (le_refl _)) (λ _.
    held-opened s.state (s.left ++ p)))

-- a last line
pub closing_room : (begun stopped : Bool) (waiting calls offset : ℕ) → length (closing begun stopped waiting calls offset) ≤ last_room
unfolding closing
closing_room begun stopped waiting calls offset =
    cond_ind (λ (l : List ℕ). length l ≤ last_room) stopped (λ _. omega arith) (λ _.
    cond_ind (λ (l : List ℕ). length l ≤ last_room) begun (λ _. end_line_lem (eqb waiting 0) calls offset) (λ _. no_version_room))

-- where a step ended, the next one starts
pub stands : (o : Step) (buffer : List ℕ) (t : Tables) (out : List ℕ) {r : Flow} {buffer' : List ℕ} {t' : Tables} {out' : List ℕ}
    → Went o buffer t out r buffer' t' out' → stand_of r (lent_in t') buffer' ≡ o.stand
stands o buffer t out w =
    rw (w.answer_is, w.buffer_is, w.tables_are, take-append_seam o.stand.left (drop (length o.stand.left) buffer))
