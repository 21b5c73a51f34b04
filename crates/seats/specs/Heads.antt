-- A row's head, its first six numbers; and the admission of a call.
use Rattle.std.specs.Prelude.{ℕ, ◌≤◌, ◌≡◌, false, cond, List, [], ◌∷◌, eqb, Result, Ok, Err, is_ok}
use Rattle.std.proofs.Common.{sym, ap, true≢false, arith, ltb-false}
use Rattle.rules.specs.Layout.{most_reads, most_writes, phase, owner, position, reads, writes, time}
use Rattle.rules.specs.Refusals.{bad_head}
use Rattle.rows.specs.Fine.{none_of}
use Rattle.seats.specs.declared.Head.{Head}
use Rattle.rules.specs.Numbers.{refusal_number, one_number}
use Rattle.rules.specs.declared.Refusal.{Refusal}

unfoldable pub head_of : List ℕ → Head
head_of g =
    record {
      phase = phase g;
      owner = owner g;
      position = position g;
      reads = reads g;
      writes = writes g;
      time = time g;
    }

-- the same, number by number
pub record HeadOf (g : List ℕ) (h : Head) : Type 0 where
  pub phase_is : h.phase ≡ phase g
  pub owner_is : h.owner ≡ owner g
  pub position_is : h.position ≡ position g
  pub reads_is : h.reads ≡ reads g
  pub writes_is : h.writes ≡ writes g
  pub time_is : h.time ≡ time g

pub head_is : {g : List ℕ} {h : Head} → h ≡ head_of g → HeadOf g h
unfolding head_of
head_is e =
    record {
      phase_is = ap (λ (h : Head). h.phase) e;
      owner_is = ap (λ (h : Head). h.owner) e;
      position_is = ap (λ (h : Head). h.position) e;
      reads_is = ap (λ (h : Head). h.reads) e;
      writes_is = ap (λ (h : Head). h.writes) e;
      time_is = ap (λ (h : Head). h.time) e;
    }

-- a row that has these six numbers alone: what the rules say of a head, they say of it
unfoldable pub head_row : Head → List ℕ
head_row h = h.phase ∷ h.owner ∷ h.position ∷ h.reads ∷ h.writes ∷ h.time ∷ []

pub bad_head_lem : {g : List ℕ} {h : Head} → HeadOf g h → bad_head (head_row h) ≡ bad_head g
unfolding bad_head head_row
bad_head_lem q = simp (← q.phase_is, ← q.owner_is, ← q.position_is, ← q.reads_is, ← q.writes_is, ← q.time_is)

-- a head that is in order has no more entries than a row can have
pub head-fits : (g : List ℕ) {h : Head} → HeadOf g h → bad_head g ≡ false → (h.reads ≤ most_reads) × (h.writes ≤ most_writes)
unfolding bad_head
head-fits g q e =
    let r = none_of _ e in
    let few-reads : reads g ≤ most_reads = ltb-false _ _ r.1.1.0 in
    let few-writes : writes g ≤ most_writes = ltb-false _ _ r.1.1.1.0 in
    (omega arith, omega arith)

-- what a call comes to, before it begins, that is refused for `why`: 0 where it is not
unfoldable pub admission : ℕ → List ℕ → Result Head ℕ
admission why g = cond (eqb why 0) (Ok (head_of g)) (Err why)

-- an admission with its refusal's number
abbrev pub numbered : Result Head Refusal → Result Head ℕ
numbered (Ok h) = Ok h
numbered (Err why) = Err (refusal_number why)

-- parts of an admission
abbrev pub head_in : Head → Result Head ℕ → Head
head_in other (Ok h) = h
head_in other (Err why) = other

abbrev pub number_in : Result Head ℕ → ℕ
number_in (Ok h) = 0
number_in (Err why) = why

-- two admissions with the same number, or the same head, are the same
pub one_admission : (r q : Result Head Refusal) → numbered r ≡ numbered q → r ≡ q
one_admission (Ok h) (Ok k) e = ap Ok (ap (head_in h) e)
one_admission (Ok h) (Err w) e = absurd (true≢false (ap is_ok e))
one_admission (Err w) (Ok k) e = absurd (true≢false (sym (ap is_ok e)))
one_admission (Err w) (Err v) e = ap Err (one_number w v (ap number_in e))
