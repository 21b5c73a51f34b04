-- The commit time and the held locks, as the code finds them.
use Rattle.std.proofs.Common.{ℕ, ◌≤◌, ◌≡◌, sym, ◌∙◌, List, arith}
use Rattle.rules.specs.Layout.{most_writes, reads, writes}
use Rattle.rules.specs.Advance.{held_locks, seen_time, due_time, commit_time}
use Rattle.rows.specs.Fine.{locks_small}
use Rattle.seats.specs.Heads.{HeadOf, head_row}
use Rattle.seats.specs.declared.Head.{Head}
use Rattle.commit.specs.declared.Step.{Step}
use Rattle.commit.specs.Steps.{Holding}

pub commit_is : {g part : List ℕ} → part ≡ g → (words : List ℕ) {n m seen time : ℕ} → n ≡ reads g → m ≡ writes g →
    seen ≡ seen_time part n → time ≡ due_time words part seen m → commit_time words g ≡ time
unfolding commit_time
commit_is e words a b q t = rw (← a, ← b, ← e, ← q) (sym t)

pub held_is : {g : List ℕ} {h : Head} → HeadOf g h → held_locks g ≡ held_locks (head_row h)
unfolding held_locks head_row
held_is q = simp (← q.phase_is, ← q.writes_is, ← q.position_is)

pub held_small : {s : Step} → Holding s → held_locks (head_row s.head) ≤ most_writes
held_small r =
    let used = r.in_use in
    let p = used.head.phase_is in
    let n = locks_small _ _ used.sound (λ z. used.used (p ∙ z)) (omega arith) in
    omega (arith, held_is used.head)
