-- The commit time is not below the kept write time of a read entry, and above the read time of a record to be written.
use Rattle.std.specs.Prelude.{ℕ, zero, suc, ◌≤◌, ◌<◌, ◌≡◌, List, get_or}
use Rattle.std.proofs.Common.{⊎_elim, arith, eq-or-lt_of_le, le_of_suc-le-suc}
use Rattle.clock.specs.Word.{read_time}
use Rattle.rules.specs.Layout.{reads, writes, kept_write, write_item}
use Rattle.rules.specs.Advance.{seen_time, due_time, commit_time}

seen_kept : (g : List ℕ) (n i : ℕ) → i < n → kept_write g i ≤ seen_time g n
unfolding seen_time
seen_kept g zero i h = absurd (omega arith)
seen_kept g (suc n) i h =
    ⊎_elim (λ (e : i ≡ n). rw e (omega arith)) (λ (l : i < n). let z = seen_kept g n i l in omega arith) (eq-or-lt_of_le (le_of_suc-le-suc h))

due_from : (words g : List ℕ) (from n : ℕ) → from ≤ due_time words g from n
unfolding due_time
due_from words g from zero = omega arith
due_from words g from (suc n) = let z = due_from words g from n in omega arith

due_above : (words g : List ℕ) (from n i : ℕ) → i < n → read_time (get_or words (write_item g i) 0) < due_time words g from n
unfolding due_time
due_above words g from zero i h = absurd (omega arith)
due_above words g from (suc n) i h =
    ⊎_elim (λ (e : i ≡ n). rw e (omega arith)) (λ (l : i < n). let z = due_above words g from n i l in omega arith) (eq-or-lt_of_le (le_of_suc-le-suc h))

pub commit_kept : (words g : List ℕ) (i : ℕ) → i < reads g → kept_write g i ≤ commit_time words g
unfolding commit_time
commit_kept words g i h = let a = seen_kept g (reads g) i h in let b = due_from words g (seen_time g (reads g)) (writes g) in omega arith

pub commit_above : (words g : List ℕ) (i : ℕ) → i < writes g → read_time (get_or words (write_item g i) 0) < commit_time words g
unfolding commit_time
commit_above words g i h = due_above words g (seen_time g (reads g)) (writes g) i h
