-- Advance in phase 3: the check of a read entry, or the seal.
use Prim.Native.Nat.{ℕ, ◌+◌, ◌-◌, ◌≤◌, ◌<◌}
use mathlib.Core.Path.{◌≡◌, refl, sym, ap, ◌∙◌}
use mathlib.Core.Logic.{◌⊎◌, inl, inr}
use mathlib.Core.Bool.{Bool, true, false, not, ◌&&◌}
use mathlib.Core.List.{List, [], ◌∷◌, ◌++◌, map}
use native.Mathlib.Omega.{arith}
use borrow.Author.Tests.{eqb-true, leb-true, ltb-true, ltb-false, not-false, le-leb}
use lib.Dec.{eqb, ltb, leb}
use lib.ListN.{length, get_or, set, length-set}
use Rattle.clock.specs.Word.{is_locked, write_time, read_time, extended}
use Rattle.clock.proofs.Laws.{write≤read, extended_is, extended_grows}
use Rattle.rules.specs.Layout.{position_at, row, put, phase, position, reads, writes, time, read_item}
use Rattle.rules.specs.Tables.{Tables, tables}
use Rattle.rules.specs.Work.{write_names, write_of}
use Rattle.rules.specs.Advance.{moved, check_item, verdict, judged, stretched, passed, ruled, check_step, seal_step, check_phase, is_own, by_word, is_blocked}
use Rattle.rules.specs.Numbers.{version_gone, word_blocked}
use Rattle.rules.specs.Advance.{passed_to}
use Rattle.rules.specs.Calls.{Advance}
use Rattle.rules.specs.declared.Answer.TheVariants.{Checked, Sealed}
use Rattle.rules.specs.declared.Verdict.{Verdict}
use Rattle.rows.specs.Search.{first_hit}
use Rattle.rows.specs.Fine.{cond_ind, read_item_lem, time-top, position_three, Fine, fine-row}
use Rattle.rows.specs.Changed.{moved_row, Nudged, not_nudged, nudge_phase, nudge_position}
use Rattle.rows.specs.Becomes.{becomes_put, becomes_moved}
use Rattle.observer.specs.Observer.{Seen, Observer, on_advance, changed, seeing, sealed_at, observe}
use Rattle.observer.proofs.Changes.{changed-same, changed_other}
use Rattle.serial.specs.Statement.{Values, ranked}
use Rattle.serial.proofs.Order.{serial_more}
use Rattle.serial.proofs.Timeline.{Named, Absent, find}
use Rattle.serial.proofs.Protocol.{Stamp, Version, ReadEntry, checking, storing}
use Rattle.serial.proofs.Versions.{reaching}
use Rattle.serial.proofs.Seal.{first_read_of, transaction_of, marked, all_marked, sealed_state, seal_inv}
use Rattle.serial.proofs.Steps.{reseat, reversion, Passes, spanned, ours, reached, passes_inv, renews_inv}
use Rattle.observer.proofs.Segments.{seg, length-seg, seg_more, seg-next, seg_end, seg_whole, seg-has}
use Rattle.observer.proofs.Entries.{write_at, write_entries}
use Rattle.serial.proofs.View.{entry_at, first-reads_are, seat_of, view, view-checking, nudged_view}
use Rattle.serial.proofs.Agree.{WordShows, SeenOk, Mirrored, stamp_at, StaysMirrored, words_show_set, sized_same, seen_nudged, agree_others, agree_seeing}
use Rattle.serial.proofs.Release.{abort_stays}

module _ (opening : Values) (t : Tables) (b : Observer) (now : Mirrored opening t b) (o s last : ℕ) (fi : Fine t o s last)
    (three : phase (row t.seats s) ≡ 3) where
  abbrev g : List ℕ
  g = row t.seats s

  seen_ok : SeenOk g (b.seats s)
  seen_ok = now.agree.seen s fi.used

  abbrev stamp : Stamp
  stamp = stamp_at t b s

  is_checking : now.σ.seat s ≡ checking stamp (seg (entry_at g) 0 (position g)) (seg (entry_at g) (position g) (reads g - position g)) (write_entries g)
  is_checking = now.agree.rows s ∙ view-checking (b.seats s).key g three

  keyed : (b.seats s).key ≡ time g
  keyed = rw is_checking at (now.inv.by-time.seats s)

  -- THE CHECK of the read entry at position
  module _ (l : position g < reads g) where
    abbrev p : ℕ
    p = position g

    abbrev e : ReadEntry
    e = entry_at g p

    abbrev passed_reads : List ReadEntry
    passed_reads = seg (entry_at g) 0 p

    abbrev later_reads : List ReadEntry
    later_reads = seg (entry_at g) (p + 1) (reads g - (p + 1))

    abbrev x : Version
    x = now.σ.version e.told.item

    abbrev word : ℕ
    word = get_or t.words e.told.item 0

    in_words : read_item g (position g) < length t.words
    in_words = read_item_lem g (length t.words) fi.sound p l

    shown : WordShows x (get_or t.values e.told.item 0) word
    shown = now.agree.shown e.told.item in_words

    next : now.σ.seat s ≡ checking stamp passed_reads (e ∷ later_reads) (write_entries g)
    next = is_checking ∙ rw (seg-next (entry_at g) p (reads g) l)

    -- position up by one
    on : Nudged g (set g position_at (position g + 1)) 3 (position g + 1) (time g)
    on = rw three at (nudge_position (not_nudged g (fine-row fi)) (p + 1))

    viewed : checking stamp (passed_reads ++ (e ∷ [])) later_reads (write_entries g) ≡ view (b.seats s).key (set g position_at (p + 1))
    unfolding seat_of
    viewed = (λ i. checking stamp (sym (seg_more (entry_at g) p) i) later_reads (write_entries g)) ∙ sym (nudged_view on (b.seats s).key)

    abbrev seen_checked : Seen
    seen_checked = on_advance (b.seats s) (Checked (check_item g))

    seen_on : SeenOk (set g position_at (position g + 1)) seen_checked
    unfolding on_advance
    seen_on = seen_nudged on (b.seats s) seen_checked seen_ok refl refl (λ q. absurd (omega arith))

    pass_mirrored : Passes x stamp (write_entries g) e →
        Mirrored opening (tables t.values t.words (put t.seats s position_at (position g + 1))) (seeing b s seen_checked)
    unfolding on_advance
    pass_mirrored q =
        record {
          σ = reseat now.σ s (checking stamp (passed_reads ++ (e ∷ [])) later_reads (write_entries g));
          inv = passes_inv opening now.σ now.inv s stamp passed_reads later_reads (write_entries g) e next q;
          agree =
              agree_seeing now.agree (tables t.values t.words (put t.seats s position_at (p + 1))) now.σ.version s _
              (set g position_at (p + 1)) refl refl now.agree.shown
              (becomes_put t.seats s position_at (p + 1) (omega arith)) seen_checked viewed (λ _. seen_on);
        }

    extend_mirrored : write_time word ≡ e.kept_write → read_time word < time g → is_locked word ≡ false →
        Mirrored opening (tables t.values (stretched t.words g) (put t.seats s position_at (position g + 1))) (seeing b s seen_checked)
    unfolding stretched on_advance
    extend_mirrored same early unlocked =
        let a = write≤read word in
        let low : write_time word ≤ time g = omega arith in
        let high = time-top g (length t.words) fi.sound (omega arith) in
        let w = extended word (time g) in
        let is = extended_is word (time g) low high in
        let up = extended_grows word (time g) low high in
        let kt = keyed in
        let m = shown in
        let y = reaching (write_time w) (b.seats s).key x in
        record {
          σ = reseat (reversion now.σ e.told.item y) s (checking stamp (passed_reads ++ (e ∷ [])) later_reads (write_entries g));
          inv =
              renews_inv opening now.σ now.inv s stamp passed_reads later_reads (write_entries g) e (write_time w) next (m.idle unlocked)
              (m.is_wrote ∙ same)
              (omega arith) (omega (arith, m.is_up_to));
          agree =
              agree_seeing now.agree (tables t.values (set t.words e.told.item w) (put t.seats s position_at (p + 1)))
              (changed e.told.item y now.σ.version) s _ (set g position_at (p + 1))
              refl (length-set t.words e.told.item w)
              (words_show_set now.σ.version t.values t.words t.values e.told.item w y now.agree.shown (λ j d. refl) in_words
              (record { is_value = m.is_value; is_wrote = refl; is_up_to = kt ∙ sym is.is_read; idle = λ q. m.idle (sym is.is_locked ∙ q) }))
              (becomes_put t.seats s position_at (p + 1) (omega arith)) seen_checked viewed (λ _. seen_on);
        }

    -- the seat writes the record too
    own : ltb (write_of g (read_item g (position g))) (writes g) ≡ true → Named (read_item g (position g)) (write_entries g)
    unfolding write_of write_names
    own a =
        let i : ℕ = write_of g e.told.item in
        let h : i < writes g = ltb-true _ _ a in
        (write_at g i, seg-has (write_at g) (writes g) i h, eqb-true _ _ (first_hit (write_names g e.told.item) (writes g) h))

    -- where the read time is below the time, a lock would have been in the way
    unblocked : is_blocked word (time g) ≡ false → read_time word < time g → is_locked word ≡ false
    unfolding is_blocked
    unblocked a h = go (is_locked word) a
      where
        go : (c : Bool) → (c && leb (read_time word) (time g)) ≡ false → c ≡ false
        go false u = refl
        go true u = sym (le-leb (read_time word) (time g) (omega arith)) ∙ u

    check_stays : StaysMirrored opening b (Advance o s) (ruled t s (judged t s))
    unfolding ruled judged is_own verdict by_word passed passed_to observe on_advance
    check_stays =
        cond_ind Q (leb (time g) e.kept_read) (λ a. pass_mirrored (spanned (omega (arith, keyed, leb-true (time g) e.kept_read a))))
        (λ _. cond_ind Q (not (eqb (write_time word) e.kept_write)) (λ _. abort_stays opening t b now o s last fi version_gone (omega arith))
        (λ a. let same = eqb-true _ _ (not-false _ a) in
        cond_ind Q (ltb (write_of g e.told.item) (writes g)) (λ c. pass_mirrored (ours (shown.is_wrote ∙ same) (own c)))
        (λ _. cond_ind Q (is_blocked word (time g)) (λ _. abort_stays opening t b now o s last fi word_blocked (omega arith))
        (λ u. cond_ind Q (ltb (read_time word) (time g)) (λ c. extend_mirrored same (ltb-true _ _ c) (unblocked u (ltb-true _ _ c)))
        (λ c. pass_mirrored (reached (shown.is_wrote ∙ same) (omega (arith, keyed, shown.is_up_to, ltb-false (read_time word) (time g) c))))))))
      where
        Q : Verdict → Type 0
        Q v = StaysMirrored opening b (Advance o s) (ruled t s v)

  -- THE SEAL, all reads checked
  module _ (all : position g ≡ reads g) where
    marked-shows : (item : ℕ) → item < length t.words → (d : Named item (write_entries g) ⊎ Absent item (write_entries g)) →
        WordShows (marked stamp d (now.σ.version item)) (get_or t.values item 0) (get_or t.words item 0)
    marked-shows item l (inl q) =
        let z : WordShows (now.σ.version item) (get_or t.values item 0) (get_or t.words item 0) = now.agree.shown item l in
        record { is_value = z.is_value; is_wrote = z.is_wrote; is_up_to = z.is_up_to; idle = z.idle }
    marked-shows item l (inr a) = now.agree.shown item l

    seal_mirrored : Mirrored opening (tables t.values t.words (moved t.seats s 4 0)) (observe b (Advance o s) (Sealed (time g)))
    unfolding seat_of on_advance observe
    seal_mirrored =
        let ok = seg (entry_at g) 0 (position g) in
        let ws = write_entries g in
        let z = b.seats s in
        let x = on_advance z (Sealed (time g)) in
        let n = nudge_position (nudge_phase (not_nudged g (fine-row fi)) 4) 0 in
        let rs : map first_read_of ok ≡ z.reads = rw all (first-reads_are g ∙ seen_ok.shows.is_reads) in
        let T = sealed_at z (time g) in
        record {
          σ = sealed_state now.σ s stamp ok ws;
          inv = seal_inv opening now.σ s stamp ok ws (is_checking ∙ rw (seg_end (entry_at g) (position g) (reads g) (omega arith))) now.inv;
          agree =
              agree_others t (tables t.values t.words (moved t.seats s 4 0)) now.σ b (observe b (Advance o s) (Sealed (time g))) s
              (λ j d. now.agree.rows j) now.agree.seen
              (ranked (transaction_of stamp ok ws) now.σ.order) (all_marked stamp ws now.σ.version) (storing stamp ws) (moved_row g 4 0)
              (sized_same (tables t.values t.words (moved t.seats s 4 0)) now.agree.sized refl refl (becomes_moved t.seats s 4 0).size)
              (λ item l. marked-shows item l (find item ws)) (becomes_moved t.seats s 4 0)
              (rw (changed-same s x b.seats) ((λ i. storing stamp (sym (seg_whole (write_at g) (writes g)) i)) ∙ sym (nudged_view n z.key)))
              (λ _. rw (changed-same s x b.seats) (seen_nudged n z x seen_ok refl refl
              (λ _. ap length (sym seen_ok.shows.is_writes) ∙ length-seg (write_at g) (writes g) 0 ∙ (let q : writes g ≡ writes g - 0 = omega arith in q))))
              (λ j d. changed_other s x b.seats j d)
              ((λ i. ranked (record { time = time g; key = z.key; reads = rs i; writes = seen_ok.shows.is_writes i }) (now.agree.order i))
              ∙ sym (serial_more b.sealed T));
        }

  pub check_phase-stays : StaysMirrored opening b (Advance o s) (check_phase t s)
  unfolding check_phase check_step seal_step observe on_advance
  check_phase-stays =
      cond_ind (StaysMirrored opening b (Advance o s)) (ltb (position g) (reads g)) (λ l. check_stays (ltb-true _ _ l))
      (λ l. seal_mirrored (omega (arith, ltb-false (position g) (reads g) l, position_three g (length t.words) fi.sound three)))
