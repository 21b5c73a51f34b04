-- What is seen of a seat is what its row holds: which records the row names, and what a Read and a Write show of it.
use Prim.Native.Nat.{ℕ, ◌≤◌, ◌<◌}
use mathlib.Core.Path.{◌≡◌, ap, ◌∙◌}
use mathlib.Core.Bool.{true, false, ◌||◌}
use mathlib.Core.List.{List, [], ◌∷◌, ◌++◌}
use borrow.Author.Tests.{ltb-true}
use lib.Dec.{eqb, ltb}
use lib.ListN.{length, set}
use Rattle.rules.specs.Layout.{row_width, most_reads, most_writes, write_value_at, reads, writes}
use Rattle.rules.specs.Work.{read_names, write_names, read_of, write_of, place_of}
use Rattle.rules.specs.declared.Answer.TheVariants.{Value, Noted}
use Rattle.rows.specs.Changed.{WithRead, WithWrite}
use Rattle.observer.specs.Observer.{FirstRead, WriteEntry, Seen, is_read, is_written, is_known, on_read, renewed, inserted, on_write}
use Rattle.observer.proofs.Segments.{has-any}
use Rattle.observer.proofs.Entries.{read_at, write_at, first_reads, write_entries, noted-first_reads, noted-write_entries}
use Rattle.observer.proofs.Folds.{SameFront, front_reads, renewed-front, renewed-writes, placed-front, placed-writes}

pub record Shows (g : List ℕ) (x : Seen) : Type 0 where
  pub is_reads : first_reads g ≡ x.reads
  pub is_writes : write_entries g ≡ x.writes

module _ (g : List ℕ) (x : Seen) (z : Shows g x) (item : ℕ) where
  -- THE RECORDS that it has written and read are those that the row's entries name
  pub sees_write : is_written x item ≡ ltb (write_of g item) (writes g)
  unfolding write_of write_names
  sees_write = rw (← z.is_writes) (has-any (λ (w : WriteEntry). eqb w.item item) (write_at g) (writes g))

  pub sees_read : is_read x item ≡ ltb (read_of g item) (reads g)
  unfolding read_of read_names
  sees_read = rw (← z.is_reads) (has-any (λ (e : FirstRead). eqb e.item item) (read_at g) (reads g))

  pub sees_known : is_known x item ≡ (ltb (write_of g item) (writes g) || ltb (read_of g item) (reads g))
  unfolding is_known
  sees_known = λ i. sees_write i || sees_read i

  -- READ of a record that is known shows nothing new; of another, a first read
  pub read_known : (v : ℕ) → is_known x item ≡ true → on_read x item (Value v) ≡ x
  unfolding on_read
  read_known v e = rw e

  pub read-shows : (h : List ℕ) (v kept_w kept_r : ℕ) → WithRead g h item v kept_w kept_r → reads g < most_reads → is_known x item ≡ false →
      Shows h (on_read x item (Value v))
  unfolding on_read
  read-shows h v kept_w kept_r n few e =
      rw e
      (record {
        is_reads = noted-first_reads n few ∙ ap (λ (l : List FirstRead). l ++ (record { item = item; value = v } ∷ [])) z.is_reads;
        is_writes = noted-write_entries n few ∙ z.is_writes;
      })

  -- WRITE of a record that has a write entry gives that the new value; of another, it enters one
  write-shows : (h : List ℕ) (v : ℕ) → SameFront g h → reads g ≤ most_reads → write_entries h ≡ (on_write x item v (Noted item)).writes →
      Shows h (on_write x item v (Noted item))
  unfolding on_write
  write-shows h v front few e = record { is_reads = front_reads g h front few ∙ z.is_reads; is_writes = e }

  pub renewed-shows : (v : ℕ) → length g ≡ row_width → reads g ≤ most_reads → writes g ≤ most_writes → ltb (write_of g item) (writes g) ≡ true →
      Shows (set g (write_value_at (write_of g item)) v) (on_write x item v (Noted item))
  renewed-shows v size few-reads few e =
      let found : write_of g item < writes g = ltb-true _ _ e in
      write-shows _ v (renewed-front g item v size few found) few-reads
      (renewed-writes g item v size few found ∙ ap (renewed item v) z.is_writes ∙ (unfold on_write in rw (sees_write ∙ e)))

  pub placed-shows : (h : List ℕ) (v : ℕ) → WithWrite g h (place_of g item) item v → reads g ≤ most_reads → ltb (write_of g item) (writes g) ≡ false →
      Shows h (on_write x item v (Noted item))
  placed-shows h v p few e =
      write-shows h v (placed-front g h item v p) few
      (placed-writes g h item v p ∙ ap (inserted item v) z.is_writes ∙ (unfold on_write in rw (sees_write ∙ e)))
