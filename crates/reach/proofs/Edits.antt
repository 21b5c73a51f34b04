-- Read and Write: a row in phase 1 with other entries.
use Prim.Native.Nat.{ℕ, ◌+◌, ◌<◌, ◌≤◌}
use mathlib.Core.Path.{◌≡◌, refl, sym, ap, ◌∙◌}
use mathlib.Core.Logic.{◌≢◌, ⊎_elim}
use mathlib.Core.Bool.{true, false, not, ◌&&◌}
use mathlib.Core.List.{List, []}
use native.Mathlib.Omega.{arith}
use native.Mathlib.Nat.{eq-or-lt_of_le}
use borrow.Author.Tests.{eqb-true, eqb-false, ltb-true, ltb-false, leb-false}
use lib.Dec.{leb, ltb, eqb}
use lib.ListN.{length, get_or, set, take}
use lib.Seq.{get_or-set_other}
use Rattle.clock.specs.Word.{is_locked, write_time, read_time}
use Rattle.clock.proofs.Laws.{write≤read}
use Rattle.rules.specs.Layout.{seat_count, most_reads, most_writes, row_width, phase_at, owner_at, position_at, reads_at, writes_at, time_at}
use Rattle.rules.specs.Layout.{read_item_at, kept_write_at, kept_read_at, write_item_at, write_value_at, write_width, row, put, phase, owner, position}
use Rattle.rules.specs.Layout.{reads, writes, time, read_item, kept_write, kept_read, write_item}
use Rattle.rules.specs.Places.{length-row}
use Rattle.rules.specs.Tables.{Tables, with_seats, answered}
use Rattle.rules.specs.Answers.{ready, value, noted, refused, kind}
use Rattle.rules.specs.Work.{read_names, write_names, read_of, write_of, read_noted, first_read, read_in, above, place_of, placed, write_in}
use Rattle.rules.specs.declared.Answer.{Answer}
use Rattle.rules.specs.declared.Answer.TheVariants.{Value, Noted, Refused}
use Rattle.rows.specs.Search.{first_le, first_hit}
use Rattle.rows.specs.Fine.{cond_ind}
use Rattle.rows.specs.Changed.{WithRead, WithWrite, noted_row, noted-row, placed_row, placed_row_lem}
use Rattle.rows.specs.Becomes.{Becomes, becomes_put, becomes_noted, becomes_placed}
use Rattle.observer.specs.Observer.{Seen, is_known, entered, on_read, on_write}
use Rattle.observer.proofs.Shows.{Shows, sees_known, read_known, read-shows, renewed-shows, placed-shows}
use Rattle.reach.specs.Life.{script}
use Rattle.reach.proofs.Tests.{by, before_first}
use Rattle.reach.proofs.Count.{one}
use Rattle.reach.proofs.InOrder.{Entries, Used, locks, InOrder}
use Rattle.reach.proofs.Named.{locks-none}
use Rattle.reach.proofs.Rows.{row-used, to_early, steps_early}
use Rattle.reach.proofs.WithinPlan.{held_less}
use Rattle.reach.proofs.Inserted.{Put, put_all, put_ascending}
use Rattle.reach.proofs.Steps.{seen_of, row_shows, seen_as, left-none, Step, step_keep}

-- the first six numbers but for the counts
record Alike (g h : List ℕ) : Type 0 where
  phase : get_or h phase_at 0 ≡ get_or g phase_at 0
  owner : get_or h owner_at 0 ≡ get_or g owner_at 0
  position : get_or h position_at 0 ≡ get_or g position_at 0
  time : get_or h time_at 0 ≡ get_or g time_at 0

alike : {g h : List ℕ} → ((f : ℕ) → f ≤ time_at → f ≢ reads_at → f ≢ writes_at → get_or h f 0 ≡ get_or g f 0) → Alike g h
alike e =
    record {
      phase = e phase_at (omega arith) (omega arith) (omega arith);
      owner = e owner_at (omega arith) (omega arith) (omega arith);
      position = e position_at (omega arith) (omega arith) (omega arith);
      time = e time_at (omega arith) (omega arith) (omega arith);
    }

-- a Read and a Write, however answered, show nothing but entries
EntersAlone : (Seen → Answer → Seen) → Type 0
EntersAlone f = (x : Seen) (a : Answer) → f x a ≡ entered x (f x a).reads (f x a).writes

read_enters : (item : ℕ) → EntersAlone (λ x a. on_read x item a)
unfolding on_read EntersAlone
read_enters item x a = cond_ind (λ (z : Seen). z ≡ entered x z.reads z.writes) (eqb (kind a) value && not (is_known x item)) (λ _. refl) (λ _. refl)

write_enters : (item v : ℕ) → EntersAlone (λ x a. on_write x item v a)
unfolding on_write EntersAlone
write_enters item v x a = cond_ind (λ (z : Seen). z ≡ entered x z.reads z.writes) (eqb (kind a) noted) (λ _. refl) (λ _. refl)

-- where no entry is found, none names the record
no_write_of : (g : List ℕ) (x i : ℕ) → writes g ≤ write_of g x → i < writes g → write_item g i ≢ x
unfolding write_of write_names
no_write_of g x i h l = eqb-false _ _ (before_first (write_names g x) (writes g) i (omega arith))

no_read_of : (g : List ℕ) (x i : ℕ) → reads g ≤ read_of g x → i < reads g → read_item g i ≢ x
unfolding read_of read_names
no_read_of g x i h l = eqb-false _ _ (before_first (read_names g x) (reads g) i (omega arith))

module _ (t : Tables) (s : ℕ) (k : InOrder t) (u : Used (length t.words) (row t.seats s)) (small : s < seat_count)
    (work : phase (row t.seats s) ≡ 1) where
  abbrev g : List ℕ
  g = row t.seats s

  size : length g ≡ row_width
  size = length-row t.seats s k.sized.rows small

  -- the tables stay: a value told again, a refusal
  tells_again : (item v : ℕ) → is_known (seen_of g) item ≡ true → Step t s (λ x a. on_read x item a) (answered (Value v) t)
  tells_again item v h =
      step_keep t s _ (Value v) (row-used u)
      (record { shown = sym (read_known g (seen_of g) (row_shows g) item v h); fair = λ e. absurd (omega arith); plain = λ e. omega arith })

  refuses : (f : Seen → Answer → Seen) (n : ℕ) → n ≢ 3 → f (seen_of g) (Refused n) ≡ seen_of g → Step t s f (answered (Refused n) t)
  refuses f n d e = step_keep t s f (Refused n) (row-used u) (record { shown = sym e; fair = λ q. d; plain = λ e. omega arith })

  none_told : (h : List ℕ) → phase h ≡ 1 → position h ≡ 0 → (seen_of h).advances ≡ []
  none_told h p q = ap (λ (n : ℕ). take n (script (writes h) (reads h))) (steps_early h (omega arith) ∙ q)

  -- the row changes in its entries alone
  edited : (f : Seen → Answer → Seen) (seats h : List ℕ) (a : Answer) → EntersAlone f → kind a ≢ ready → kind a ≢ refused → Shows h (f (seen_of g) a) →
      Becomes t.seats seats s h → Alike g h → Entries (length t.words) h → Step t s f (answered a (with_seats t seats))
  unfolding EntersAlone
  edited f seats h a enters plain given shows b e q =
      let hd = u.head in
      let pos = hd.working work in
      let tm = hd.untimed (omega arith) in
      let e0 : phase h ≡ phase g = e.phase in
      let e1 : owner h ≡ owner g = e.owner in
      let e2 : position h ≡ position g = e.position in
      let e5 : time h ≡ time g = e.time in
      let ho = hd.owner_in in
      let ht = hd.timely in
      let none : (r : List ℕ) (x : ℕ) → phase r ≡ 1 → position r ≡ 0 → locks r x ≡ false =
      (λ r x a b. locks-none r x (let q = to_early r (omega arith) in omega arith)) in
      let same : (x : ℕ) → locks h x ≡ locks g x = (λ x. none h x (omega arith) (omega arith) ∙ sym (none g x work pos)) in
      record {
        next = h;
        change = record {
          becomes = b;
          values = refl;
          words = refl;
          in_order = row-used (record { head = omega arith; entries = q; not_below = λ z. absurd (omega arith) });
          locked = λ x l le. let b : one (locks h x) ≡ one (locks g x) = ap one (same x) in omega arith;
          timely = λ x l le. le;
        };
        mine = held_less g h (omega arith) e1;
        told = record {
          shown =
              seen_as h (entered (seen_of g) (f (seen_of g) a).reads (f (seen_of g) a).writes)
              (record {
                is_open = ap (λ (z : ℕ). not (eqb z 0)) e0;
                is_holder = e1;
                is_advances = none_told h (omega arith) (omega arith) ∙ sym (none_told g work pos);
                is_sealed = ap (λ (z : ℕ). eqb z 4) e0;
                shows = record { is_reads = shows.is_reads; is_writes = shows.is_writes };
                is_locked = same;
                is_key = e5;
                is_left = left-none h (omega arith) ∙ sym (left-none g (omega arith));
              })
              ∙ sym (enters (seen_of g) a);
          fair = λ z. absurd (given z);
          plain = plain;
        };
      }

  -- READ: a new read entry
  note_ok : (y v word : ℕ) → y < length t.words → word ≡ get_or t.words y 0 → reads g < most_reads → ((i : ℕ) → i < reads g → read_item g i ≢ y) →
      is_known (seen_of g) y ≡ false → Step t s (λ x a. on_read x y a) (answered (Value v) (with_seats t (read_noted t.seats s y v word)))
  note_ok y v word inside ew few unread un =
      let n : ℕ = reads g in
      let h : List ℕ = noted_row g y v (write_time word) (read_time word) in
      let z : WithRead g h y v (write_time word) (read_time word) = noted-row g y v (write_time word) (read_time word) size (omega arith) in
      let m3 : reads h ≡ n + 1 = z.count in
      let m4 : writes h ≡ writes g = z.before writes_at (omega arith) (omega arith) in
      let item : read_item h n ≡ y = z.has_item in
      let was : (i : ℕ) → i < n → read_item h i ≡ read_item g i = (λ i l. z.before (read_item_at i) (omega arith) (omega arith)) in
      let kw : (i : ℕ) → i < n → kept_write h i ≡ kept_write g i = (λ i l. z.before (kept_write_at i) (omega arith) (omega arith)) in
      let kr : (i : ℕ) → i < n → kept_read h i ≡ kept_read g i = (λ i l. z.before (kept_read_at i) (omega arith) (omega arith)) in
      let w : (i : ℕ) → write_item h i ≡ write_item g i = (λ i. z.behind (write_item_at i) (omega arith)) in
      let e = u.entries in
      let ewr = e.writes_in in
      let last : (i : ℕ) → i < reads h → i ≢ n → i < n = (λ i l d. omega arith) in
      edited _ _ h (Value v) (read_enters y) (λ e. omega arith) (λ e. omega arith)
      (read-shows g (seen_of g) (row_shows g) y h v (write_time word) (read_time word) z few un) (becomes_noted t.seats s y v word (omega arith))
      (alike (λ f a b c. z.before f (omega arith) (omega arith)))
      (record {
        reads_in = omega arith;
        writes_in = omega arith;
        read_in_lem = λ i l. by (eqb i n) (λ q. rw (eqb-true i n q, item) inside) (λ q. let j = last i l (eqb-false i n q) in rw (was i j) (e.read_in_lem i j));
        write_in_lem = λ i l. rw (w i) (e.write_in_lem i (omega arith));
        distinct = λ i j a l. by (eqb j n)
            (λ q. rw (eqb-true j n q, item, was i (let f = eqb-true j n q in omega arith)) (unread i (let f = eqb-true j n q in omega arith)))
            (λ q. let f = last j l (eqb-false j n q) in rw (was i (omega arith), was j f) (e.distinct i j a f));
        ascending = λ i j a l. rw (w i, w j) (e.ascending i j a (omega arith));
        ordered = λ i l.
            by (eqb i n) (λ q. rw (eqb-true i n q, z.has-kept_write, z.has-kept_read) (write≤read word))
            (λ q. let j = last i l (eqb-false i n q) in rw (kw i j, kr i j) (e.ordered i j));
        kept_timely = λ i l.
            by (eqb i n) (λ q. rw (eqb-true i n q, z.has-kept_read, ew) (k.timely y inside))
            (λ q. let j = last i l (eqb-false i n q) in rw (kr i j) (e.kept_timely i j));
        no_read = λ f a l. z.behind f (omega arith) ∙ e.no_read f (omega arith) l;
        no_write = λ f a l. z.behind f (omega arith) ∙ e.no_write f (omega arith) l;
      })

  pub read_ok : (y : ℕ) → y < length t.words → Step t s (λ x a. on_read x y a) (read_in t s y)
  unfolding read_in first_read
  read_ok y inside =
      let known = sees_known g (seen_of g) (row_shows g) y in
      by (ltb (write_of g y) (writes g)) (λ e. rw e (tells_again y _ (known ∙ rw e refl)))
      (λ e0. rw e0 (by (ltb (read_of g y) (reads g)) (λ e. rw e (tells_again y _ (known ∙ rw (e0, e) refl)))
      (λ e1. rw e1 (by (leb most_reads (reads g)) (λ e. rw e (read-refused 8 (omega arith)))
      (λ e2. rw e2 (by (is_locked (get_or t.words y 0)) (λ e. rw e (read-refused 10 (omega arith)))
      (λ e3. rw e3 (note_ok y (get_or t.values y 0) (get_or t.words y 0) inside refl (leb-false most_reads (reads g) e2)
      (λ i l. no_read_of g y i (ltb-false _ _ e1) l) (known ∙ rw (e0, e1) refl)))))))))
    where
      read-refused : (n : ℕ) → n ≢ 3 → Step t s (λ x a. on_read x y a) (answered (Refused n) t)
      read-refused n d = refuses _ n d (unfold on_read in refl)

  -- WRITE: a pending value replaced
  over_ok : (x v : ℕ) → ltb (write_of g x) (writes g) ≡ true →
      Step t s (λ z a. on_write z x v a) (answered (Noted x) (with_seats t (put t.seats s (write_value_at (write_of g x)) v)))
  over_ok x v found =
      let i : ℕ = write_of g x in
      let b : i < writes g = ltb-true _ _ found in
      let h : List ℕ = set g (write_value_at i) v in
      let e = u.entries in
      let ew = e.writes_in in
      let er = e.reads_in in
      let rest : (f : ℕ) → f ≢ write_value_at i → get_or h f 0 ≡ get_or g f 0 = (λ f d. get_or-set_other g (write_value_at i) f v 0 d) in
      let m3 : reads h ≡ reads g = rest reads_at (omega arith) in
      let m4 : writes h ≡ writes g = rest writes_at (omega arith) in
      let rd : (j : ℕ) → j < reads g → read_item h j ≡ read_item g j = (λ j l. rest (read_item_at j) (omega arith)) in
      let w : (j : ℕ) → write_item h j ≡ write_item g j = (λ j. rest (write_item_at j) (omega arith)) in
      edited _ _ h (Noted x) (write_enters x v) (λ e. omega arith) (λ e. omega arith)
      (renewed-shows g (seen_of g) (row_shows g) x v size er ew found) (becomes_put t.seats s (write_value_at i) v (omega arith))
      (alike (λ f a b c. rest f (omega arith)))
      (record {
        reads_in = omega arith;
        writes_in = omega arith;
        read_in_lem = λ j l. rw (rd j (omega arith)) (e.read_in_lem j (omega arith));
        write_in_lem = λ j l. rw (w j) (e.write_in_lem j (omega arith));
        distinct = λ j q a l. rw (rd j (omega arith), rd q (omega arith)) (e.distinct j q a (omega arith));
        ascending = λ j q a l. rw (w j, w q) (e.ascending j q a (omega arith));
        ordered = λ j l. rw (rest (kept_write_at j) (omega arith), rest (kept_read_at j) (omega arith)) (e.ordered j (omega arith));
        kept_timely = λ j l. rw (rest (kept_read_at j) (omega arith)) (e.kept_timely j (omega arith));
        no_read = λ f a l. rest f (omega arith) ∙ e.no_read f (omega arith) l;
        no_write = λ f a l. rest f (omega arith) ∙ e.no_write f (omega arith) l;
      })

  -- the place is before the first greater record number, and behind the lesser ones
  place_in : (x : ℕ) → place_of g x ≤ writes g
  unfolding place_of
  place_in x = first_le (above g x) (writes g)

  place_before : (x : ℕ) → writes g ≤ write_of g x → (j : ℕ) → j < place_of g x → write_item g j < x
  unfolding place_of above
  place_before x e j l =
      let a = place_in x in
      let d : write_item g j ≢ x = no_write_of g x j e (omega arith) in
      let b : write_item g j ≤ x = ltb-false x (write_item g j) (before_first (above g x) (writes g) j l) in
      omega arith

  place_behind : (x : ℕ) → place_of g x < writes g → x < write_item g (place_of g x)
  unfolding place_of above
  place_behind x l = ltb-true x _ (first_hit (above g x) (writes g) l)

  -- a new write entry, before the first with a greater record number
  place_ok : (x v : ℕ) → ltb (write_of g x) (writes g) ≡ false → writes g < most_writes → x < length t.words →
      Step t s (λ z a. on_write z x v a) (answered (Noted x) (with_seats t (placed t.seats s (place_of g x) x v)))
  place_ok x v none few inside =
      let i : ℕ = place_of g x in
      let fits = place_in x in
      let before = place_before x (ltb-false _ _ none) in
      let behind = place_behind x in
      let n : ℕ = writes g in
      let h : List ℕ = placed_row g i x v in
      let z : WithWrite g h i x v = placed_row_lem g i x v size fits (omega arith) in
      let e = u.entries in
      let er = e.reads_in in
      let m3 : reads h ≡ reads g = z.before reads_at (omega arith) (omega arith) in
      let m4 : writes h ≡ n + 1 = z.count in
      let front : (f : ℕ) → time_at < f → f < write_item_at 0 → get_or h f 0 ≡ get_or g f 0 = (λ f a b. z.before f (omega arith) (omega arith)) in
      let rd : (j : ℕ) → j < reads g → read_item h j ≡ read_item g j = (λ j l. front (read_item_at j) (omega arith) (omega arith)) in
      let put_in : Put (write_item h) (write_item g) n i x =
      record {
        fits = fits;
        at = z.has_item;
        low = λ j l. z.before (write_item_at j) (omega arith) (omega arith);
        high = λ j a l. ap (λ (f : ℕ). get_or h f 0) (let q : write_item_at (j + 1) ≡ write_item_at j + write_width = omega arith in q)
            ∙ z.up (write_item_at j) (omega arith) (omega arith);
      } in
      let over : (j : ℕ) → i ≤ j → j < n → x < write_item g j =
      (λ j a l. let b = behind (omega arith) in ⊎_elim (λ (q : i ≡ j). rw q at b) (λ q. let r = e.ascending i j q l in omega arith) (eq-or-lt_of_le a)) in
      edited _ _ h (Noted x) (write_enters x v) (λ e. omega arith) (λ e. omega arith)
      (placed-shows g (seen_of g) (row_shows g) x h v z er none) (becomes_placed t.seats s i x v fits (omega arith))
      (alike (λ f a b c. z.before f (omega arith) (omega arith)))
      (record {
        reads_in = omega arith;
        writes_in = omega arith;
        read_in_lem = λ j l. rw (rd j (omega arith)) (e.read_in_lem j (omega arith));
        write_in_lem = λ j l. put_all put_in (λ y. y < length t.words) inside e.write_in_lem j (omega arith);
        distinct = λ p q a l. rw (rd p (omega arith), rd q (omega arith)) (e.distinct p q a (omega arith));
        ascending = λ p q a l. put_ascending put_in before over e.ascending p q a (omega arith);
        ordered =
            λ j l. rw (front (kept_write_at j) (omega arith) (omega arith), front (kept_read_at j) (omega arith) (omega arith)) (e.ordered j (omega arith));
        kept_timely = λ j l. rw (front (kept_read_at j) (omega arith) (omega arith)) (e.kept_timely j (omega arith));
        no_read = λ f a l. front f (omega arith) (omega arith) ∙ e.no_read f (omega arith) l;
        no_write = λ f a l. z.behind f (omega arith) ∙ e.no_write f (omega arith) l;
      })

  pub write_ok : (x v : ℕ) → x < length t.words → Step t s (λ z a. on_write z x v a) (write_in t s x v)
  unfolding write_in
  write_ok x v inside =
      by (ltb (write_of g x) (writes g)) (λ e. rw e (over_ok x v e))
      (λ e. rw e (by (leb most_writes (writes g)) (λ q. rw q (refuses _ 9 (omega arith) (unfold on_write in refl)))
      (λ q. rw q (place_ok x v e (leb-false most_writes (writes g) q) inside))))
