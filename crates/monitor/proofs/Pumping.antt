-- The program's lengths and numbers make every step whole, and the next one too. Assumes nothing.
use Rattle.std.proofs.Common.{ℕ, ◌-◌, ◌≤◌, arith, ◌≡◌, refl, ap, ◌∙◌, false, List, ◌++◌, length, take, drop, length-drop, length-append, length-take-le}
use Rattle.turns.specs.declared.Tables.{Tables}
use Rattle.turns.specs.Lent.{lent_in}
use Rattle.tape.specs.Lines.{opening}
use Rattle.tape.specs.Promises.{part}
use Rattle.tape.specs.Room.{not-unfit, put_front}
use Rattle.flow.specs.declared.Flow.{Flow}
use Rattle.flow.specs.Parts.{Stand, Step, stepped}
use Rattle.flow.specs.Promises.{stand_of, flow_of, unready, closing_of, Started, Stepped, Finished}
use Rattle.flow.specs.Steps.{Held, held, closing_room}
use Rattle.monitor.specs.Program.{output_length, most_turns, Proceeds, Asked, Pumped, Ended}

-- at the start, every turn is to come
pub first_turn : {f : Flow} → Started f → Proceeds f most_turns
unfolding opening
first_turn e = rw e record { going = refl; roomy = omega arith; calls = omega arith; offset = omega arith; records = omega arith }

module _ (f : Flow) (buffer : List ℕ) (to : ℕ) (t : Tables) (out : List ℕ) (asked : Asked f buffer to (lent_in t) out) where
  fine : unready f buffer to (lent_in t) out ≡ false
  fine =
      not-unfit
      record {
        inside = omega (arith, asked.within, asked.buffers.input);
        behind = asked.behind;
        calls = omega (arith, asked.proceeds.calls, asked.proceeds.offset);
        offset = omega (arith, asked.proceeds.offset);
        records = asked.proceeds.records;
        values_are = asked.buffers.values_are;
        words_are = asked.buffers.words_are;
        roomy = omega (arith, asked.within, asked.buffers.output);
      }

  abbrev stand : Stand
  stand = stand_of f (lent_in t) buffer

  all_bytes : length (stand.left ++ part buffer f.waiting to) ≡ to
  all_bytes =
      let here : f.waiting ≤ to = asked.behind in
      let inside : to ≤ length buffer = omega (arith, asked.within, asked.buffers.input) in
      let w : length (take f.waiting buffer) ≡ f.waiting = length-take-le f.waiting buffer (omega arith) in
      let p : length (part buffer f.waiting to) ≡ to - f.waiting =
      length-take-le (to - f.waiting) (drop f.waiting buffer) (omega (arith, length-drop f.waiting buffer)) in
      omega (arith, length-append (take f.waiting buffer) (part buffer f.waiting to))

  -- a step is done whole, and its numbers grow by no more than what was read
  pub pumped : {r : Flow} {buffer' : List ℕ} {t' : Tables} {out' : List ℕ} → Stepped f buffer to t out r buffer' t' out'
      → Pumped f buffer to t out r buffer' t' out'
  pumped {r} s =
      let o : Step = stepped stand (part buffer f.waiting to) in
      let e : r ≡ flow_of o = (s.done fine).answer_is in
      let h : Held stand.state to o = rw all_bytes at (held stand (part buffer f.waiting to)) in
      let end : r.end ≡ length o.text = ap (λ (x : Flow). x.end) e in
      let calls : r.counts.calls ≡ o.stand.state.calls = ap (λ (x : Flow). x.counts.calls) e in
      let offset : r.counts.offset ≡ o.stand.state.offset = ap (λ (x : Flow). x.counts.offset) e in
      let waiting : r.waiting ≡ length o.stand.left = ap (λ (x : Flow). x.waiting) e in
      let records : r.counts.records ≡ o.stand.state.records = ap (λ (x : Flow). x.counts.records) e in
      record {
        went = s.done fine;
        fits = omega (arith, h.fits, asked.within);
        roomy = λ e. omega (arith, s.short e);
        calls = omega (arith, h.calls asked.proceeds.calls);
        offset = omega (arith, h.offset);
        records = omega (arith, h.records asked.proceeds.records);
        lengths = s.lengths;
      }

-- the last line has room
pub ended : (f : Flow) {out : List ℕ} {r : ℕ} {out' : List ℕ} → length out ≡ output_length → Finished f out r out' → Ended f out r out'
ended f {out} h k =
    let small = closing_room f.begun f.stopped f.waiting f.counts.calls f.counts.offset in
    record {
      size = k.size;
      text = k.text ∙ put_front (closing_of f) out (omega arith);
      fits = omega (arith, k.size);
    }
