-- Open finds a free seat wherever it is not refused. If none were free, the owners would hold 64 seats between them, so U would be at least 64;
-- it is not above 64, and the owner's own share is either used up, which is refusal 7, or makes U greater still.
use Rattle.std.specs.Prelude.{ℕ, zero, suc, ◌≤◌, ◌<◌, ◌≡◌, ◌≢◌, Bool, List, length}
use Rattle.std.proofs.Common.{arith, ltb-false, ltb-true, leb-false, eq-eqb, ne_eqb}
use Rattle.std.proofs.lemmas.Bool.{eqb-false}
use Rattle.std.proofs.Math.Path.{refl}
use Rattle.std.proofs.Math.Bool.{true, false, cond}
use Rattle.std.proofs.Math.Dec.{leb}
use Rattle.rules.specs.Tests.{sum_to, count, any, first}
use Rattle.rules.specs.Layout.{owners, seat_count, row, phase, owner, share, limit}
use Rattle.rules.specs.Tables.{Tables}
use Rattle.rules.specs.Refusals.{unsized}
use Rattle.rules.specs.Plan.{bad_row, holds, held, claim, claims, unsound, crowded, owner_refusal, plan_refusal, open_refusal, is_free, free_seat}
use Rattle.rules.proofs.Limits.{held-claim, share-claim}
use Rattle.rows.specs.Search.{none_at}
use Rattle.rows.specs.Fine.{none_of, not_given}
use Rattle.rows.specs.Sums.{sum_add, sum_has, sum_mono, sum_less}

module _ (seats : List ℕ) where
  -- a row not free is counted for its owner
  counted : (s : ℕ) → phase (row seats s) ≢ 0 → ◌≡◌ {A = ℕ} (cond (holds seats (owner (row seats s)) s) 1 0) 1
  unfolding holds
  counted s h = simp (ne_eqb _ _ h, eq-eqb (owner (row seats s)) (owner (row seats s)) refl)

  -- the first n rows, none of them free and each with an owner, are held by the owners
  used-held : (n : ℕ) → ((s : ℕ) → s < n → phase (row seats s) ≢ 0) → ((s : ℕ) → s < n → owner (row seats s) < owners) →
      n ≤ sum_to (λ o. count (holds seats o) n) owners
  unfolding count
  used-held zero busy own = omega arith
  used-held (suc n) busy own =
      let i = used-held n (λ s l. busy s (omega arith)) (λ s l. own s (omega arith)) in
      let a = sum_add (λ o. count (holds seats o) n) (λ o. cond (holds seats o n) 1 0) owners in
      let b = sum_has (λ o. cond (holds seats o n) 1 0) (owner (row seats n)) owners (own n (omega arith)) in
      let d = counted n (busy n (omega arith)) in
      omega arith

  busy_at : any (is_free seats) seat_count ≡ false → (s : ℕ) → s < seat_count → phase (row seats s) ≢ 0
  unfolding is_free
  busy_at e s l = eqb-false _ _ (none_at _ seat_count s e l)

  owned_at : any (bad_row seats) seat_count ≡ false → (s : ℕ) → s < seat_count → phase (row seats s) ≢ 0 → owner (row seats s) < owners
  unfolding bad_row
  owned_at e s l h = leb-false owners (owner (row seats s)) (simp (ne_eqb _ _ h) at (none_of _ (none_at _ seat_count s e l)).1.0)

  no_room : (o : ℕ) → o < owners → unsound seats ≡ false → crowded seats o ≡ false → any (is_free seats) seat_count ≡ false → ⊥
  unfolding unsound crowded claims
  no_room o l e q f =
      let r = none_of _ e in
      let all : seat_count ≤ sum_to (held seats) owners = (unfold held in used-held seat_count (busy_at f) (λ s h. owned_at r.1.0 s h (busy_at f s h))) in
      let u : claims seats ≤ seat_count = ltb-false seat_count (claims seats) r.1.1.1.0 in
      go all u (leb (share seats o) (held seats o)) refl
    where
      go : seat_count ≤ sum_to (held seats) owners → sum_to (claim seats) owners ≤ seat_count → (b : Bool) → leb (share seats o) (held seats o) ≡ b → ⊥
      go all u true t =
          let m = sum_mono (held seats) (claim seats) owners (λ i _. held-claim seats i) in
          let d : claims seats ≢ seat_count = eqb-false (claims seats) seat_count (simp t at q) in
          omega arith
      go all u false t =
          let s = leb-false (share seats o) (held seats o) t in
          let k = share-claim seats o in
          let m = sum_less (held seats) (claim seats) o owners (λ i _. held-claim seats i) l (omega arith) in
          omega arith

pub seat_found : (t : Tables) (o : ℕ) → open_refusal t o ≡ 0 → free_seat t.seats < seat_count
unfolding open_refusal plan_refusal owner_refusal free_seat
seat_found t o e =
    let seats : List ℕ = t.seats in
    let sized = not_given (unsized (length t.values) (length t.words) (length seats)) 0 e in
    let owner_in = not_given (leb owners o) 1 sized.1 in
    let sound = not_given (unsound seats) 2 owner_in.1 in
    let below = not_given (leb (limit seats o) (held seats o)) 5 sound.1 in
    let uncrowded = not_given (crowded seats o) 6 {n = 0} below.1 in
    by_test (any (is_free t.seats) seat_count) refl (no_room t.seats o (leb-false owners o owner_in.0) sound.0 uncrowded.0)
  where
    by_test : (b : Bool) → any (is_free t.seats) seat_count ≡ b → (any (is_free t.seats) seat_count ≡ false → ⊥) →
        first (is_free t.seats) seat_count < seat_count
    by_test true q h = ltb-true _ _ q
    by_test false q h = absurd (h q)
