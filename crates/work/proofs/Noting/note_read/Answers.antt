-- `work::Noting::note_read` meets its contract. Assumes nothing.
use Rattle.std.proofs.Common.{refl}
use Rattle.rules.specs.Work.{read_noted}
use Rattle.work.proofs.Notes.{gave}
use Rattle.work.proofs.Noting.note_read.Goals as goal

pub returns : goal.returns
unfolding read_noted
returns c =
    let named = gave c.args.self.now _ c.give-2.ensures c.give.ensures refl in
    let written = gave c.args.self.now _ c.give-3.ensures named c.write_time-kept_write.ensures in
    let timed = gave c.args.self.now _ c.give-4.ensures written c.read_time-kept_read.ensures in
    simp (← c.requires.count_is) (gave c.args.self.now _ c.give-5.ensures timed refl)
