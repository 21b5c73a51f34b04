-- `work::Noting::write_in` meets its contract. Assumes nothing.
use Rattle.std.proofs.Common.{refl, arith, le-leb, le-ltb, lt-ltb}
use Rattle.std.proofs.lemmas.Bool.{lt-leb}
use Rattle.rules.specs.Work.{place_of, write_in}
use Rattle.rows.specs.Search.{first_le}
use Rattle.seats.specs.Outcomes.{write_found, write_missing}
use Rattle.work.proofs.Noting.write_in.Goals as goal

pub returns-in-Some : goal.returns-in-Some
unfolding write_in
returns-in-Some c =
    let w = write_found refl _ c.requires.writes_is c.requires.few_writes c.write_of.ensures c.in-Some.is in
    rw c.give.ensures (λ t. record { same_seats = refl; outcome = simp (w.0, lt-ltb _ _ w.1) refl })

pub returns-then-self-ge-MOST_WRITES : goal.returns-then-self-ge-MOST_WRITES
unfolding write_in
returns-then-self-ge-MOST_WRITES c = λ t.
    let w = write_missing refl _ c.requires.writes_is c.requires.few_writes c.write_of.ensures c.in_default.is in
    record { same_seats = refl; outcome = simp (le-ltb _ _ w, ← c.requires.writes_is, le-leb _ _ c.if-self-ge-MOST_WRITES.true) }

pub place-requires : goal.place-requires
unfolding place_of
place-requires c =
    record { count_is = c.requires.writes_is; room = omega arith; place_in = rw (c.place_of-i.ensures, c.requires.writes_is) (first_le _ _) }

pub returns : goal.returns
unfolding write_in
returns c =
    let w = write_missing refl _ c.requires.writes_is c.requires.few_writes c.write_of.ensures c.in_default.is in
    rw c.place.ensures (λ t. record {
      same_seats = refl;
      outcome = simp (le-ltb _ _ w, ← c.requires.writes_is, lt-leb _ _ c.if-self-ge-MOST_WRITES.false, ← c.place_of-i.ensures) refl;
    })
