-- `work::Noting::slide` meets its contract. Assumes nothing.
use Rattle.std.proofs.Common.{arith, ap, refl, ◌∙◌}
use Rattle.work.specs.Entries.{with_lent_seats}
use Rattle.work.proofs.Notes.{gave}
use Rattle.work.proofs.Slides.{slid_more, slid-none}
use Rattle.work.proofs.Noting.slide.Goals as goal

pub loop-p-init : goal.loop-p-init
loop-p-init c = (omega arith, ap (with_lent_seats c.args.self.now) (slid-none _ _ _ _ (omega arith) c.requires.room))

pub loop-p-preserved : goal.loop-p-preserved
loop-p-preserved c =
    let so_far = c.loop-p.invariant in
    let number = rw so_far.1 at c.number-v.ensures in
    let slid = slid_more _ _ _ _ (omega arith) c.requires.room _ (omega arith) (omega arith) refl number refl in
    (omega arith, gave c.args.self.now _ c.give.ensures so_far.1 refl ∙ ap (with_lent_seats c.args.self.now) slid)
