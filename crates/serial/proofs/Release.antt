-- An abort and Abandon: the held locks given back one after another, and the row freed.
use Prim.Native.Nat.{ℕ, zero, suc, ◌+◌, ◌-◌, ◌≤◌, ◌<◌}
use mathlib.Core.Path.{◌≡◌, refl, sym, ◌∙◌}
use mathlib.Core.Logic.{◌≢◌}
use mathlib.Core.Bool.{Bool, false}
use mathlib.Core.Option.{Option, none}
use mathlib.Core.List.{List, []}
use native.Mathlib.Omega.{arith}
use native.Mathlib.Numerals.{add-one}
use borrow.Author.Tests.{eqb-true, eqb-false}
use lib.Dec.{eqb}
use lib.ListN.{length, get_or}
use Rattle.clock.specs.Word.{with_lock}
use Rattle.clock.proofs.Laws.{with_lock_is}
use Rattle.rules.specs.Layout.{row_width, row, phase, position, writes, write_item}
use Rattle.rules.specs.Tables.{Tables, tables}
use Rattle.rules.specs.Plan.{freed}
use Rattle.rules.specs.Advance.{held_locks, released, let_go}
use Rattle.rules.specs.Calls.{Advance, Abandon}
use Rattle.rules.specs.declared.Answer.{Answer}
use Rattle.rules.specs.declared.Answer.TheVariants.{Dropped, Aborted}
use Rattle.rows.specs.Fine.{cond_ind, write_item_lem, position_low, Fine, fine-row}
use Rattle.rows.specs.Changed.{free_row}
use Rattle.rows.specs.Becomes.{becomes_freed}
use Rattle.rows.specs.Released.{length-released}
use Rattle.observer.specs.Observer.{Observer, unseen, on_advance, on_abandon, seeing, observe}
use Rattle.observer.proofs.Changes.{changed-same, changed_other}
use Rattle.serial.specs.Statement.{Values}
use Rattle.serial.proofs.Protocol.{Version, ReadEntry, State, free, working, Inv}
use Rattle.serial.proofs.Versions.{with_holder}
use Rattle.serial.proofs.Steps.{reseat, reversion, retreats_inv, unlocks_inv, leaves_inv}
use Rattle.observer.proofs.Segments.{seg, seg-next, seg_end, seg_whole}
use Rattle.observer.proofs.Entries.{write_at, write_entries}
use Rattle.serial.proofs.View.{read_entries, seat_of, view_early, view-checking}
use Rattle.serial.proofs.Agree.{WordShows, WordsShow, Mirrored, StaysMirrored, words_show_set, sized_same, agree_others}

-- the word of a version whose lock is given, or given back
pub lock_shows : (o : Option ℕ) (l : Bool) (x : Version) (v word : ℕ) → WordShows x v word → (l ≡ false → o ≡ none) →
    WordShows (with_holder o x) v (with_lock l word)
lock_shows o l x v word z idle =
    let w = with_lock_is l word in
    record {
      is_value = z.is_value;
      is_wrote = z.is_wrote ∙ sym w.is_written;
      is_up_to = z.is_up_to ∙ sym w.is_read;
      idle = λ q. idle (sym w.is_locked ∙ q);
    }

-- the state after the first n of m locks are given back
record GivenBack (opening : Values) (values words g : List ℕ) (s m : ℕ) (rs : List ReadEntry) (σ : State) (n : ℕ) : Type 0 where
  to : State
  inv : Inv opening to
  shown : WordsShow to.version values (released words g n)
  order : to.order ≡ σ.order
  others : (j : ℕ) → j ≢ s → to.seat j ≡ σ.seat j
  left : to.seat s ≡ working rs (seg (write_at g) n (m - n))

module _ (opening : Values) (values words g : List ℕ) (s m : ℕ) (rs : List ReadEntry) (σ : State) (inv : Inv opening σ)
    (shown : WordsShow σ.version values words)
    (e : σ.seat s ≡ working rs (seg (write_at g) 0 m)) (known : (i : ℕ) → i < m → write_item g i < length words) where
  given_back_lem : (n : ℕ) → n ≤ m → GivenBack opening values words g s m rs σ n
  unfolding released
  given_back_lem zero h =
      record { to = σ; inv = inv; shown = shown; order = refl; others = λ j d. refl; left = e ∙ rw (seg_whole (write_at g) m) }
  given_back_lem (suc n) h =
      let p = given_back_lem n (omega arith) in
      let w = write_at g n in
      let x = p.to.version w.item in
      let words' = released words g n in
      let word = get_or words' w.item 0 in
      let seat = working rs (seg (write_at g) (n + 1) (m - (n + 1))) in
      let in_words : w.item < length words' = rw (length-released words g n) (known n h) in
      record {
        to = reseat (reversion p.to w.item (with_holder none x)) s seat;
        inv = unlocks_inv opening p.to p.inv s rs (seg (write_at g) (n + 1) (m - (n + 1))) w (p.left ∙ rw (seg-next (write_at g) n m h));
        shown = words_show_set p.to.version values words' values w.item (with_lock false word) (with_holder none x) p.shown (λ j d. refl) in_words
            (lock_shows none false x (get_or values w.item 0) word (p.shown w.item in_words) (λ _. refl));
        order = p.order;
        others = λ j d. changed_other s seat p.to.seat j d ∙ p.others j d;
        left = changed-same s seat p.to.seat ∙ rw (add-one n);
      }

-- from any state that agrees but for seat s, which holds the locks of the first n write entries of its row
gone : (opening : Values) (t : Tables) (b : Observer) (now : Mirrored opening t b) (s n : ℕ) (rs : List ReadEntry) (σ : State) → Inv opening σ →
    WordsShow σ.version t.values t.words →
    σ.order ≡ now.σ.order → ((j : ℕ) → j ≢ s → σ.seat j ≡ now.σ.seat j) → σ.seat s ≡ working rs (seg (write_at (row t.seats s)) 0 n) →
    ((i : ℕ) → i < n → write_item (row t.seats s) i < length t.words) → length (row t.seats s) ≡ row_width →
    Mirrored opening (tables t.values (released t.words (row t.seats s) n) (freed t.seats s)) (seeing b s unseen)
unfolding seat_of
gone opening t b now s n rs σ inv shown o other e known size =
    let g = row t.seats s in
    let p = given_back_lem opening t.values t.words g s n rs σ inv shown e known n (omega arith) in
    let be = becomes_freed t.seats s size in
    record {
      σ = reseat p.to s free;
      inv = leaves_inv opening p.to p.inv s rs (p.left ∙ rw (seg_end (write_at g) n n (omega arith)));
      agree =
          agree_others t _ p.to b (seeing b s unseen) s (λ j d. p.others j d ∙ other j d ∙ now.agree.rows j) now.agree.seen p.to.order
          p.to.version free free_row
          (sized_same (tables t.values (released t.words g n) (freed t.seats s)) now.agree.sized refl (length-released t.words g n)
          be.size) p.shown be
          refl (λ d. absurd (d refl)) (λ j d. changed_other s unseen b.seats j d) (p.order ∙ o ∙ now.agree.order);
    }

-- LET GO, in phases 1 to 3
module _ (opening : Values) (t : Tables) (b : Observer) (now : Mirrored opening t b) (o s last : ℕ) (fi : Fine t o s last) where
  abbrev g : List ℕ
  g = row t.seats s

  known : (i : ℕ) → i < writes g → write_item g i < length t.words
  known i l = write_item_lem g (length t.words) fi.sound i l

  from_early : phase g ≤ 2 → Mirrored opening (tables t.values (released t.words g (position g)) (freed t.seats s)) (seeing b s unseen)
  from_early l =
      let low : position g ≤ writes g = position_low g (length t.words) fi.sound fi.used l in
      gone opening t b now s (position g) (read_entries g) now.σ now.inv now.agree.shown refl (λ j n. refl)
      (now.agree.rows s ∙ view_early (b.seats s).key g fi.used l) (λ i m. known i (omega arith)) (fine-row fi)

  from_checking : phase g ≡ 3 → Mirrored opening (tables t.values (released t.words g (writes g)) (freed t.seats s)) (seeing b s unseen)
  from_checking e =
      let seat = working [] (write_entries g) in
      gone opening t b now s (writes g) [] (reseat now.σ s seat)
      (retreats_inv opening now.σ now.inv s _ _ _ (write_entries g) (now.agree.rows s ∙ view-checking (b.seats s).key g e))
      now.agree.shown refl (λ j n. changed_other s seat now.σ.seat j n) (changed-same s seat now.σ.seat) known (fine-row fi)

  let_go_lem : (a : Answer) → phase g ≤ 3 → Mirrored opening (let_go t s a).tables (seeing b s unseen)
  unfolding let_go held_locks
  let_go_lem a l =
      cond_ind (λ (n : ℕ). Mirrored opening (tables t.values (released t.words g n) (freed t.seats s)) (seeing b s unseen)) (eqb (phase g) 3)
      (λ e. from_checking (eqb-true _ _ e)) (λ e. let d : phase g ≢ 3 = eqb-false _ _ e in from_early (omega arith))

  pub abort_stays : (why : ℕ) → phase g ≤ 3 → StaysMirrored opening b (Advance o s) (let_go t s (Aborted why))
  unfolding let_go observe on_advance
  abort_stays why l = let_go_lem (Aborted why) l

  pub drop-stays : phase g ≤ 3 → StaysMirrored opening b (Abandon o s) (let_go t s (Dropped s))
  unfolding let_go observe on_abandon
  drop-stays l = let_go_lem (Dropped s) l
