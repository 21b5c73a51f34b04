-- `work::Noting::read_in` meets its contract. Assumes nothing.
use Rattle.std.proofs.Common.{refl, sym, ◌∙◌}
use Rattle.work.proofs.Notes.{read_in_is}
use Rattle.work.proofs.Noting.read_in.Goals as goal

pub returns-in-Some : goal.returns-in-Some
returns-in-Some c = record { same_seats = refl; outcome = read_in_is _ _ _ (sym c.noted.ensures ∙ c.in-Some.is) }

pub returns : goal.returns
returns c =
    let first = c.first_read.ensures in
    record { same_seats = first.same_seats; outcome = first.outcome ∙ read_in_is _ _ _ (sym c.noted.ensures ∙ c.in_default.is) }
