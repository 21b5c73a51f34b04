-- What a step leaves, store by store; and what it reads of what the row has noted.
use Rattle.std.proofs.Common.{ℕ, ◌≡◌, ◌∙◌, ap, refl, Bool, true, false, cond, ltb, List, Option, Some, None}
use Rattle.rules.specs.Layout.{put, row, reads, writes}
use Rattle.rules.specs.Tables.{Tables, Outcome, answered}
use Rattle.rules.specs.Work.{first_read, read_in, read_of, write_of}
use Rattle.rules.specs.declared.Answer.TheVariants.{Value}
use Rattle.work.specs.declared.Noting.{Noting}
use Rattle.work.specs.Entries.{noted, with_lent_seats}

-- a store after other stores
pub gave : (s : Noting) (f : ℕ) {a b : Noting} {l : List ℕ} {v v' : ℕ} →
    b ≡ with_lent_seats a (put a.seats.now a.seat f v) → a ≡ with_lent_seats s l → v ≡ v' → b ≡ with_lent_seats s (put l s.seat f v')
gave s f {l = l} {v} e p q =
    e ∙ ap (λ (a : Noting). with_lent_seats a (put a.seats.now a.seat f v)) p ∙ ap (λ (x : ℕ). with_lent_seats s (put l s.seat f x)) q

abbrev by_noted : Option ℕ → Tables → Outcome → Outcome
by_noted (Some v) t o = answered (Value v) t
by_noted None t o = o

pub read_in_is : (t : Tables) (s item : ℕ) {found : Option ℕ} → noted (row t.seats s) item ≡ found → by_noted found t (first_read t s item) ≡ read_in t s item
unfolding noted read_in
read_in_is t s item e =
    let g : List ℕ = row t.seats s in
    rw (← e) (go (ltb (write_of g item) (writes g)) (ltb (read_of g item) (reads g)) _ _ _)
  where
    go : (a b : Bool) (v w : ℕ) (o : Outcome) →
        by_noted (cond a (Some v) (cond b (Some w) None)) t o ≡ cond a (answered (Value v) t) (cond b (answered (Value w) t) o)
    go true b v w o = refl
    go false true v w o = refl
    go false false v w o = refl
