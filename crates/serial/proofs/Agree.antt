-- How tables, with what the observer has seen, stand to a state of the protocol; and what is to be shown of a call.
use Prim.Native.Nat.{ℕ, ◌-◌, ◌<◌}
use mathlib.Core.Path.{◌≡◌, sym, ◌∙◌}
use mathlib.Core.Logic.{◌≢◌}
use mathlib.Core.Bool.{false}
use mathlib.Core.Option.{none}
use mathlib.Core.List.{List}
use native.Mathlib.Omega.{arith}
use native.Mathlib.Decide.{ℕ_discrete}
use borrow.Author.Tests.{eqb-true}
use lib.Dec.{eqb}
use lib.ListN.{length, get_or, set, length-set}
use lib.Seq.{get_or-set_same, get_or-set_other}
use Rattle.clock.specs.Word.{is_locked, write_time, read_time}
use Rattle.rules.specs.Layout.{row, phase, position, writes, time}
use Rattle.rules.specs.Tables.{Tables, Outcome, answered, unless}
use Rattle.rules.specs.Calls.{Call}
use Rattle.rules.specs.declared.Answer.TheVariants.{Refused}
use Rattle.rows.specs.Fine.{cond_ind, Sized}
use Rattle.rows.specs.Changed.{Nudged}
use Rattle.rows.specs.Becomes.{Becomes}
use Rattle.observer.specs.Observer.{Transaction, Seen, Observer, changed, seeing, observe}
use Rattle.observer.proofs.Changes.{changed-same, changed_other, changed_ind, refusal-shows}
use Rattle.observer.proofs.Entries.{nudged_writes, nudged_first_reads, nudged_write_entries}
use Rattle.observer.proofs.Shows.{Shows}
use Rattle.serial.specs.Statement.{Values, serial}
use Rattle.serial.proofs.Protocol.{Stamp, Version, Seat, State, Inv}
use Rattle.serial.proofs.View.{view}

-- a record's value and word show its version
pub record WordShows (x : Version) (v word : ℕ) : Type 0 where
  pub is_value : x.value ≡ v
  pub is_wrote : x.wrote ≡ write_time word
  pub is_up_to : x.up_to ≡ read_time word
  -- what is not locked has no holder
  pub idle : is_locked word ≡ false → x.holder ≡ none

abbrev pub WordsShow : (ℕ → Version) → List ℕ → List ℕ → Type 0
WordsShow c values words = (item : ℕ) → item < length words → WordShows (c item) (get_or values item 0) (get_or words item 0)

-- what is seen of a seat is what its row holds
pub record SeenOk (g : List ℕ) (x : Seen) : Type 0 where
  pub shows : Shows g x
  pub is_left : phase g ≡ 4 → x.left ≡ writes g - position g

-- a nudged row, with what is seen of it
pub seen_nudged : {g h : List ℕ} {ph p t : ℕ} → Nudged g h ph p t → (x y : Seen) → SeenOk g x → y.reads ≡ x.reads → y.writes ≡ x.writes →
    (ph ≡ 4 → y.left ≡ writes g - p) → SeenOk h y
seen_nudged {g} {h} n x y o a b left =
    let ph = n.is_phase in
    let po = n.is_position in
    let wr = nudged_writes n in
    record {
      shows = record { is_reads = nudged_first_reads n ∙ o.shows.is_reads ∙ sym a; is_writes = nudged_write_entries n ∙ o.shows.is_writes ∙ sym b };
      is_left = λ e. omega (arith, left (omega arith));
    }

pub record Agree (t : Tables) (σ : State) (b : Observer) : Type 0 where
  pub sized : Sized t
  pub shown : WordsShow σ.version t.values t.words
  pub rows : (s : ℕ) → σ.seat s ≡ view (b.seats s).key (row t.seats s)
  pub seen : (s : ℕ) → phase (row t.seats s) ≢ 0 → SeenOk (row t.seats s) (b.seats s)
  pub order : σ.order ≡ serial b.sealed

-- some state of the protocol agrees
pub record Mirrored (opening : Values) (t : Tables) (b : Observer) : Type 0 where
  pub σ : State
  pub inv : Inv opening σ
  pub agree : Agree t σ b

-- a seat's stamp, once it has its time
abbrev pub stamp_at : Tables → Observer → ℕ → Stamp
stamp_at t b s = record { key = (b.seats s).key; time = time (row t.seats s) }

-- WHAT IS TO BE SHOWN of a call, other than a Setup that is answered ready
abbrev pub StaysMirrored : Values → Observer → Call → Outcome → Type 0
StaysMirrored opening b c z = Mirrored opening z.tables (observe b c z.answer)

-- a refusal shows nothing new
pub refused-stays : (opening : Values) (t : Tables) (b : Observer) → Mirrored opening t b → (c : Call) (why : ℕ) →
    StaysMirrored opening b c (answered (Refused why) t)
refused-stays opening t b now c why = rw (refusal-shows b c why) now

pub unless-stays : (opening : Values) (t : Tables) (b : Observer) → Mirrored opening t b → (c : Call) (why : ℕ) (z : Outcome) →
    (why ≡ 0 → StaysMirrored opening b c z) → StaysMirrored opening b c (unless why t z)
unless-stays opening t b now c why z h = cond_ind (StaysMirrored opening b c) (eqb why 0) (λ e. h (eqb-true why 0 e)) (λ _. refused-stays opening t b now c why)

-- WHAT IS TO BE SHOWN of a change
-- one record's value and word change
pub words_show_set : (c : ℕ → Version) (values words values' : List ℕ) (item word : ℕ) (x : Version) → WordsShow c values words →
    ((j : ℕ) → j ≢ item → get_or values' j 0 ≡ get_or values j 0) → item < length words → WordShows x (get_or values' item 0) word →
    WordsShow (changed item x c) values' (set words item word)
words_show_set c values words values' item word x h other l m =
    changed_ind (λ j z. j < length (set words item word) → WordShows z (get_or values' j 0) (get_or (set words item word) j 0)) item x c
    (λ _. rw (get_or-set_same words item word 0 l) m)
    (λ j n q. rw (other j n, get_or-set_other words item j word 0 n) (h j (rw (length-set words item word) at q)))

-- a table of the same lengths
pub sized_same : {t : Tables} (u : Tables) → Sized t → length u.values ≡ length t.values → length u.words ≡ length t.words →
    length u.seats ≡ length t.seats → Sized u
sized_same u z a b c =
    record {
      same = a ∙ z.same ∙ sym b;
      some = let l = z.some in omega arith;
      few = let l = z.few in omega arith;
      rows = c ∙ z.rows;
    }

-- row k becomes g, versions and what is sealed may change; of the other seats it is enough that they agreed
pub agree_others : (t u : Tables) (σ : State) (b d : Observer) (s : ℕ) →
    ((j : ℕ) → j ≢ s → σ.seat j ≡ view (b.seats j).key (row t.seats j)) →
    ((j : ℕ) → phase (row t.seats j) ≢ 0 → SeenOk (row t.seats j) (b.seats j)) →
    (S : List Transaction) (c : ℕ → Version) (seat : Seat) (g : List ℕ) →
    Sized u → WordsShow c u.values u.words →
    Becomes t.seats u.seats s g →
    seat ≡ view (d.seats s).key g →
    (phase g ≢ 0 → SeenOk g (d.seats s)) →
    ((j : ℕ) → j ≢ s → d.seats j ≡ b.seats j) →
    S ≡ serial d.sealed →
    Agree u (record { order = S; version = c; seat = changed s seat σ.seat }) d
agree_others t u σ b d s rows seen S c seat g sized shown be v se other o =
    record {
      sized = sized;
      shown = shown;
      rows = changed_ind (λ j z. z ≡ view (d.seats j).key (row u.seats j)) s seat σ.seat (rw be.own v)
          (λ j n. rw (be.others j n, other j n) (rows j n));
      seen = λ j. go j (ℕ_discrete j s);
      order = o;
    }
  where
    go : (j : ℕ) → Dec (j ≡ s) → phase (row u.seats j) ≢ 0 → SeenOk (row u.seats j) (d.seats j)
    go j (yes e) = rw (e, be.own) se
    go j (no n) = rw (be.others j n, other j n) (seen j)

module _ {t : Tables} {σ : State} {b : Observer} (h : Agree t σ b) (u : Tables) (c : ℕ → Version) (s : ℕ) (seat : Seat) (g : List ℕ)
    (va : length u.values ≡ length t.values) (wo : length u.words ≡ length t.words) (shown : WordsShow c u.values u.words)
    (be : Becomes t.seats u.seats s g) where
  -- seat s is seen otherwise
  pub agree_seeing : (x : Seen) → seat ≡ view x.key g → (phase g ≢ 0 → SeenOk g x) →
      Agree u (record { order = σ.order; version = c; seat = changed s seat σ.seat }) (seeing b s x)
  agree_seeing x v se =
      agree_others t u σ b (seeing b s x) s (λ j n. h.rows j) h.seen σ.order c seat g (sized_same u h.sized va wo be.size) shown be
      (rw (changed-same s x b.seats) v) (rw (changed-same s x b.seats) se) (λ j n. changed_other s x b.seats j n) h.order
