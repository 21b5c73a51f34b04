-- What a call knows once it is admitted, and what it comes to where it is not.
use Rattle.std.specs.Prelude.{ℕ, ◌≤◌, ◌≡◌, refl, ◌≢◌, Bool, true, false, cond, List, eqb, length, Result, Ok, Err, is_ok}
use Rattle.std.proofs.Common.{sym, ap, ◌∙◌, true≢false, arith, eqb-true}
use Rattle.rules.specs.Layout.{row}
use Rattle.rules.specs.Tables.{Tables, Outcome, answered, unless}
use Rattle.rules.specs.Refusals.{refusal}
use Rattle.rules.specs.Numbers.{refusal_number}
use Rattle.rules.specs.declared.Answer.TheVariants.{Refused}
use Rattle.rules.specs.declared.Refusal.{Refusal}
use Rattle.rows.specs.Fine.{Sound, fine}
use Rattle.seats.specs.Heads.{HeadOf, head_of, head_is, admission, numbered, head_in, number_in}
use Rattle.seats.specs.declared.Head.{Head}

-- the row is in use and not damaged, and begins with that head
pub record InUse (g : List ℕ) (records : ℕ) (h : Head) : Type 0 where
  pub head : HeadOf g h
  pub used : h.phase ≢ 0
  pub sound : Sound g records

-- an admission is one of the two
ready-head : (why : ℕ) (g : List ℕ) (h : Head) → admission why g ≡ Ok h → (why ≡ 0) × (h ≡ head_of g)
unfolding admission
ready-head why g h e = go (eqb why 0) refl e
  where
    go : (b : Bool) → eqb why 0 ≡ b → cond b (Ok (head_of g)) (Err why) ≡ Ok h → (why ≡ 0) × (h ≡ head_of g)
    go true q z = (eqb-true why 0 q, sym (ap (head_in h) z))
    go false q z = absurd (true≢false (sym (ap is_ok z)))

refused_why : (why : ℕ) (g : List ℕ) (m : ℕ) → admission why g ≡ Err m → (eqb why 0 ≡ false) × (why ≡ m)
unfolding admission
refused_why why g m e = go (eqb why 0) refl e
  where
    go : (b : Bool) → eqb why 0 ≡ b → cond b (Ok (head_of g)) (Err why) ≡ Err m → (eqb why 0 ≡ false) × (why ≡ m)
    go true q z = absurd (true≢false (ap is_ok z))
    go false q z = (q, ap number_in z)

-- A CALL THAT IS REFUSED answers that, and leaves the tables
pub refused_call : (t : Tables) (why : ℕ) (g : List ℕ) (m : ℕ) (o : Outcome) → admission why g ≡ Err m → answered (Refused m) t ≡ unless why t o
refused_call t why g m o e =
    let z = refused_why why g m e in
    rw (z.0, z.1)

pub refused_by_name : (t : Tables) (why : ℕ) (g : List ℕ) (o : Outcome) {r : Result Head Refusal} {e : Refusal} → numbered r ≡ admission why g → r ≡ Err e →
    answered (Refused (refusal_number e)) t ≡ unless why t o
refused_by_name t why g o {r} {e} a is = refused_call t why g (refusal_number e) o (sym a ∙ ap numbered is)

-- ONE THAT IS ADMITTED comes to what follows, and knows its row
module _ (t : Tables) (o s : ℕ) (unknown : Bool) (last : ℕ) (h : Head) {r : Result Head Refusal}
    (e : numbered r ≡ admission (refusal t o s unknown last) (row t.seats s)) (is : r ≡ Ok h) where
  not-refused : refusal t o s unknown last ≡ 0
  not-refused = (ready-head _ _ h (sym e ∙ ap numbered is)).0

  head_known : HeadOf (row t.seats s) h
  head_known = head_is (ready-head _ _ h (sym e ∙ ap numbered is)).1

  pub ready_call : (x : Outcome) → unless (refusal t o s unknown last) t x ≡ x
  ready_call x = rw not-refused refl

  pub in_use : InUse (row t.seats s) (length t.words) h
  in_use =
      let f = fine t o s unknown last not-refused in
      record { head = head_known; used = λ z. f.used (sym head_known.phase_is ∙ z); sound = f.sound }

  pub phase_below : h.phase ≤ last
  phase_below =
      let f = fine t o s unknown last not-refused in
      let q = head_known in
      omega arith
