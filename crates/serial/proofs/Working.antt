-- Open, Read and Write are steps of the protocol, and the observer sees of them what the row holds.
use Prim.Native.Nat.{ℕ, ◌≤◌, ◌<◌}
use mathlib.Core.Path.{◌≡◌, refl, sym, ◌∙◌}
use mathlib.Core.Bool.{true, false, ◌||◌}
use mathlib.Core.List.{List, [], ◌∷◌, ◌++◌}
use native.Mathlib.Omega.{arith}
use borrow.Author.Tests.{eqb-true, leb-false, ltb-true}
use lib.Dec.{ltb, leb}
use lib.ListN.{length, get_or}
use Rattle.clock.specs.Word.{is_locked, write_time, read_time}
use Rattle.rules.specs.Layout.{seat_count, row_width, most_reads, most_writes, phase_at, position_at, write_value_at, row, put, phase, position, reads, writes}
use Rattle.rules.specs.Places.{length-row}
use Rattle.rules.specs.Tables.{Tables, tables}
use Rattle.rules.specs.Refusals.{record_refusal, unsized}
use Rattle.rules.specs.Plan.{open_refusal, is_free, free_seat, opened, open_seat}
use Rattle.rules.specs.Work.{read_of, write_of, above, place_of, read_noted, first_read, read_in, read, placed, write_in, write}
use Rattle.rules.specs.Calls.{Open, Read, Write}
use Rattle.rules.specs.declared.Answer.TheVariants.{Value, Noted}
use Rattle.rows.specs.Search.{first_hit, first_le}
use Rattle.rows.specs.Fine.{cond_ind, not_given, Sized, sized_of, position-one, Fine, fine, fine-row, item_in}
use Rattle.rows.specs.FreeSeat.{seat_found}
use Rattle.rows.specs.Changed.{opened_row, noted_row, noted-row, placed_row, placed_row_lem}
use Rattle.rows.specs.Becomes.{Becomes, becomes_put, becomes_opened, becomes_noted, becomes_placed}
use Rattle.observer.specs.Observer.{Seen, Observer, given_to, is_known, on_read, on_write, seeing, observe}
use Rattle.observer.proofs.Changes.{seeing-same}
use Rattle.observer.proofs.Segments.{seg}
use Rattle.observer.proofs.Folds.{SameFront, renewed-front, placed-front}
use Rattle.observer.proofs.Shows.{Shows, sees_known, read_known, read-shows, renewed-shows, placed-shows}
use Rattle.serial.specs.Statement.{Values}
use Rattle.serial.proofs.Protocol.{working}
use Rattle.serial.proofs.Steps.{reseat, entry_of, opens_inv, reads_inv, rests_inv}
use Rattle.serial.proofs.View.{read_entries, seat_of, view-working, noted-read_entries, front_entries}
use Rattle.serial.proofs.Agree.{WordShows, SeenOk, Mirrored, StaysMirrored, refused-stays, unless-stays, agree_seeing}

-- a row in phase 1 has neither key nor stores to come
seen-working : (g : List ℕ) (x : Seen) → phase g ≡ 1 → Shows g x → SeenOk g x
seen-working g x in_one z = record { shows = z; is_left = λ e. absurd (omega arith) }

module _ (opening : Values) (t : Tables) (b : Observer) (now : Mirrored opening t b) where
  -- OPEN: the lowest free seat is free
  opened_mirrored : (s o : ℕ) → Sized t → s < seat_count → phase (row t.seats s) ≡ 0 →
      Mirrored opening (tables t.values t.words (opened t.seats s o)) (seeing b s (given_to o))
  unfolding seat_of seg
  opened_mirrored s o z l e =
      record {
        σ = reseat now.σ s (working [] []);
        inv = opens_inv opening now.σ now.inv s (now.agree.rows s ∙ rw e);
        agree =
            agree_seeing now.agree (tables t.values t.words (opened t.seats s o)) now.σ.version s (working [] [])
            (opened_row o) refl refl now.agree.shown
            (becomes_opened t.seats s o (length-row t.seats s z.rows l)) (given_to o) refl
            (λ _. seen-working (opened_row o) (given_to o) refl (record { is_reads = refl; is_writes = refl }));
      }

  pub open_stays : (o : ℕ) → StaysMirrored opening b (Open o) (open_seat t o)
  unfolding open_seat open_refusal free_seat is_free observe
  open_stays o =
      unless-stays opening t b now (Open o) (open_refusal t o) _
      (λ e. let l = seat_found t o e in
      let sized = not_given (unsized (length t.values) (length t.words) (length t.seats)) 0 e in
      opened_mirrored (free_seat t.seats) o (sized_of t sized.0) l
      (eqb-true _ _ (first_hit (is_free t.seats) seat_count l)))

-- READ AND WRITE, not refused before 6
module _ (opening : Values) (t : Tables) (b : Observer) (now : Mirrored opening t b) (o s item : ℕ) (fi : Fine t o s 1)
    (there : item < length t.words) where
  abbrev g : List ℕ
  g = row t.seats s

  in_one : phase g ≡ 1
  in_one = let p = fi.phase_in in let q = fi.used in omega arith

  size : length g ≡ row_width
  size = fine-row fi

  at_start : position g ≡ 0
  at_start = position-one g (length t.words) fi.sound in_one

  is_working : now.σ.seat s ≡ working (read_entries g) []
  is_working = now.agree.rows s ∙ view-working (b.seats s).key g in_one at_start

  seen_ok : SeenOk g (b.seats s)
  seen_ok = now.agree.seen s fi.used

  -- the observer knows the records that the row names
  known_is : is_known (b.seats s) item ≡ (ltb (write_of g item) (writes g) || ltb (read_of g item) (reads g))
  known_is = sees_known g (b.seats s) seen_ok.shows item

  -- READ of a record that is written or read before: nothing new is seen
  seen_before : (v : ℕ) → is_known (b.seats s) item ≡ true → Mirrored opening t (seeing b s (on_read (b.seats s) item (Value v)))
  seen_before v e = rw (seeing-same b s _ (read_known g (b.seats s) seen_ok.shows item v e)) now

  -- READ of another, with room for an entry
  noted_mirrored : is_known (b.seats s) item ≡ false → reads g < most_reads →
      let v = get_or t.values item 0 in
      Mirrored opening (tables t.values t.words (read_noted t.seats s item v (get_or t.words item 0)))
      (seeing b s (on_read (b.seats s) item (Value v)))
  noted_mirrored unknown few =
      let v = get_or t.values item 0 in
      let word = get_or t.words item 0 in
      let h = noted_row g item v (write_time word) (read_time word) in
      let n = noted-row g item v (write_time word) (read_time word) size (omega arith) in
      let m : WordShows (now.σ.version item) v word = now.agree.shown item there in
      let x : Seen = on_read (b.seats s) item (Value v) in
      let ph : phase h ≡ 1 = n.before phase_at (omega arith) (omega arith) ∙ in_one in
      let po : position h ≡ 0 = n.before position_at (omega arith) (omega arith) ∙ at_start in
      record {
        σ = reseat now.σ s (working (read_entries g ++ (entry_of item (now.σ.version item) ∷ [])) []);
        inv = reads_inv opening now.σ now.inv s (read_entries g) [] item is_working;
        agree =
            agree_seeing now.agree (tables t.values t.words (read_noted t.seats s item v word)) now.σ.version s _ h refl refl now.agree.shown
            (becomes_noted t.seats s item v word (omega arith)) x
            ((λ i. working (read_entries g
            ++ (record { told = record { item = item; value = m.is_value i }; kept_write = m.is_wrote i; kept_read = m.is_up_to i } ∷ [])) [])
            ∙ (λ i. working (sym (noted-read_entries n few) i) [])
            ∙ sym (view-working x.key h ph po))
            (λ _. seen-working h x ph (read-shows g (b.seats s) seen_ok.shows item h v (write_time word) (read_time word) n few unknown));
      }

  first-stays : is_known (b.seats s) item ≡ false → StaysMirrored opening b (Read o s item) (first_read t s item)
  unfolding first_read observe
  first-stays unknown =
      cond_ind (StaysMirrored opening b (Read o s item)) (leb most_reads (reads g)) (λ _. refused-stays opening t b now (Read o s item) 8)
      (λ few. cond_ind (StaysMirrored opening b (Read o s item)) (is_locked (get_or t.words item 0)) (λ _. refused-stays opening t b now (Read o s item) 10)
      (λ _. noted_mirrored unknown (leb-false most_reads (reads g) few)))

  pub read_in_stays : StaysMirrored opening b (Read o s item) (read_in t s item)
  unfolding read_in observe
  read_in_stays =
      cond_ind (StaysMirrored opening b (Read o s item)) (ltb (write_of g item) (writes g))
      (λ a. seen_before _ (known_is ∙ rw a))
      (λ a. cond_ind (StaysMirrored opening b (Read o s item)) (ltb (read_of g item) (reads g)) (λ c. seen_before _ (known_is ∙ rw (a, c)))
      (λ c. first-stays (known_is ∙ rw (a, c))))

  -- WRITE: the row's write entries change, and its reads do not
  written_mirrored : (v : ℕ) (l h : List ℕ) → Becomes t.seats l s h → SameFront g h → Shows h (on_write (b.seats s) item v (Noted item)) →
      Mirrored opening (tables t.values t.words l) (seeing b s (on_write (b.seats s) item v (Noted item)))
  written_mirrored v l h be front z =
      let same = front_entries g h front fi.sound.reads_in in
      let x = on_write (b.seats s) item v (Noted item) in
      let ph : phase h ≡ 1 = front phase_at (omega arith) (omega arith) ∙ in_one in
      let po : position h ≡ 0 = front position_at (omega arith) (omega arith) ∙ at_start in
      record {
        σ = reseat now.σ s (now.σ.seat s);
        inv = rests_inv opening now.σ now.inv s;
        agree = agree_seeing now.agree (tables t.values t.words l) now.σ.version s (now.σ.seat s) h refl refl now.agree.shown be x
            (is_working ∙ (λ i. working (sym same i) []) ∙ sym (view-working x.key h ph po))
            (λ _. seen-working h x ph z);
      }

  module _ (v : ℕ) where
    abbrev noted_seen : Observer
    noted_seen = seeing b s (on_write (b.seats s) item v (Noted item))

    renewed_mirrored : ltb (write_of g item) (writes g) ≡ true →
        Mirrored opening (tables t.values t.words (put t.seats s (write_value_at (write_of g item)) v)) noted_seen
    renewed_mirrored a =
        let few = fi.sound.writes_in in
        let found : write_of g item < writes g = ltb-true _ _ a in
        written_mirrored v _ _ (becomes_put t.seats s (write_value_at (write_of g item)) v (omega arith)) (renewed-front g item v size few found)
        (renewed-shows g (b.seats s) seen_ok.shows item v size fi.sound.reads_in few a)

    inserted_mirrored : ltb (write_of g item) (writes g) ≡ false → writes g < most_writes →
        Mirrored opening (tables t.values t.words (placed t.seats s (place_of g item) item v)) noted_seen
    inserted_mirrored a few =
        let low : place_of g item ≤ writes g = (unfold place_of in first_le (above g item) (writes g)) in
        let p = placed_row_lem g (place_of g item) item v size low (omega arith) in
        let h = placed_row g (place_of g item) item v in
        written_mirrored v _ h (becomes_placed t.seats s (place_of g item) item v low (omega arith)) (placed-front g h item v p)
        (placed-shows g (b.seats s) seen_ok.shows item h v p fi.sound.reads_in a)

    pub write_in_stays : StaysMirrored opening b (Write o s item v) (write_in t s item v)
    unfolding write_in observe
    write_in_stays =
        cond_ind (StaysMirrored opening b (Write o s item v)) (ltb (write_of g item) (writes g)) (λ a. renewed_mirrored a)
        (λ a. cond_ind (StaysMirrored opening b (Write o s item v)) (leb most_writes (writes g)) (λ _. refused-stays opening t b now (Write o s item v) 9)
        (λ c. inserted_mirrored a (leb-false most_writes (writes g) c)))

module _ (opening : Values) (t : Tables) (b : Observer) (now : Mirrored opening t b) where
  pub read_stays : (o s item : ℕ) → StaysMirrored opening b (Read o s item) (read t o s item)
  unfolding read
  read_stays o s item =
      unless-stays opening t b now (Read o s item) (record_refusal t o s item 1) _
      (λ e. read_in_stays opening t b now o s item (fine t o s _ 1 e) (item_in t o s item 1 e))

  pub write-stays : (o s item v : ℕ) → StaysMirrored opening b (Write o s item v) (write t o s item v)
  unfolding write
  write-stays o s item v =
      unless-stays opening t b now (Write o s item v) (record_refusal t o s item 1) _
      (λ e. write_in_stays opening t b now o s item (fine t o s _ 1 e) (item_in t o s item 1 e) v)
