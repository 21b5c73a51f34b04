-- `work::Noting::place` meets its contract. Assumes nothing.
use Rattle.std.proofs.Common.{refl}
use Rattle.rules.specs.Work.{placed}
use Rattle.work.proofs.Notes.{gave}
use Rattle.work.proofs.Noting.place.Goals as goal

pub returns : goal.returns
unfolding placed
returns c =
    let named = gave c.args.self.now _ c.give.ensures c.slide.ensures refl in
    let valued = gave c.args.self.now _ c.give-2.ensures named refl in
    simp (← c.requires.count_is) (gave c.args.self.now _ c.give-3.ensures valued refl)
