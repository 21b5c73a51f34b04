-- What the program lends, and what its steps keep to.
use Rattle.std.specs.Prelude.{ℕ, ◌+◌, ◌-◌, ◌*◌, ◌/◌, ◌≤◌, ◌<◌, ◌≡◌, false, List, Result, IfOk, length, take}
use Rattle.rules.specs.Layout.{most_records}
use Rattle.rules.specs.Tables as rule
use Rattle.turns.specs.declared.Tables.{Tables}
use Rattle.turns.specs.Lent.{lent_in, SameLengths}
use Rattle.frames.specs.Decode.{longest}
use Rattle.tape.specs.Promises.{at_front, part, far_off, room_for}
use Rattle.monitor.specs.declared.Failure.{Failure}
use Rattle.flow.specs.declared.Flow.{Flow}
use Rattle.flow.specs.Parts.{stepped}
use Rattle.flow.specs.Promises.{stand_of, Went, closing_of}

-- the longest frame fits the input buffer, and the lines of a full one fit the output
abbrev pub input_length : ℕ
input_length = longest

abbrev pub output_length : ℕ
output_length = room_for input_length

pub record Buffers (buffer : List ℕ) (t : rule.Tables) (out : List ℕ) : Type 0 where
  pub input : length buffer ≡ input_length
  pub values_are : length t.values ≡ most_records
  pub words_are : length t.words ≡ most_records
  pub output : length out ≡ output_length

-- as many turns as are sure to leave every number small: each reads at most a full buffer
abbrev pub most_turns : ℕ
most_turns = (far_off - 1) / input_length

-- a flow that a part can be given to, with so many turns to come: there is room to read into, so a read of no bytes is the end of the tape
pub record Proceeds (f : Flow) (turns : ℕ) : Type 0 where
  pub going : f.stopped ≡ false
  pub roomy : f.waiting < input_length
  pub calls : f.counts.calls ≤ f.counts.offset
  pub offset : f.counts.offset + f.waiting + input_length * turns ≤ far_off
  pub records : f.counts.records ≤ most_records

-- what a step asks for
pub record Asked (f : Flow) (buffer : List ℕ) (to : ℕ) (t : rule.Tables) (out : List ℕ) : Type 0 where
  pub buffers : Buffers buffer t out
  pub proceeds : Proceeds f 1
  pub behind : f.waiting ≤ to
  pub within : to ≤ input_length

-- where what was read, behind the bytes that wait, ends
pub record Lies (buffer : List ℕ) (waiting to : ℕ) : Type 0 where
  pub behind : waiting ≤ to
  pub within : to ≤ length buffer

-- the bytes that wait stay, also where nothing can be read
pub record Fetched (buffer : List ℕ) (waiting : ℕ) (r : Result ℕ Failure) (buffer' : List ℕ) : Type 0 where
  pub read : IfOk r (Lies buffer waiting)
  pub stays : take waiting buffer' ≡ take waiting buffer

-- a part's step, done whole, and its numbers
pub record Pumped (f : Flow) (buffer : List ℕ) (to : ℕ) (t : Tables) (out : List ℕ) (r : Flow) (buffer' : List ℕ) (t' : Tables) (out' : List ℕ)
    : Type 0 where
  pub went : Went (stepped (stand_of f (lent_in t) buffer) (part buffer f.waiting to)) buffer t out r buffer' t' out'
  pub fits : r.end ≤ output_length
  pub roomy : r.stopped ≡ false → r.waiting < input_length
  pub calls : r.counts.calls ≤ r.counts.offset
  pub offset : r.counts.offset + r.waiting ≤ f.counts.offset + to
  pub records : r.counts.records ≤ most_records
  pub lengths : SameLengths t t'

-- the last line, whole
pub record Ended (f : Flow) (out : List ℕ) (r : ℕ) (out' : List ℕ) : Type 0 where
  pub size : r ≡ length (closing_of f)
  pub text : out' ≡ at_front (closing_of f) out
  pub fits : r ≤ output_length
