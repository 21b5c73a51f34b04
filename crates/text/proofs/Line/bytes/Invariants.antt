use Rattle.std.proofs.Common.{◌≡◌, take}
use Rattle.text.specs.Inner.{Put}
use Rattle.text.proofs.Line.bytes.Given as goal

-- the bytes so far are put
abbrev pub invariant-loop-b : goal.invariant-loop-b
invariant-loop-b l =
    let line = l.initial.self in
    (l.self.out.ghost_name ≡ line.out.ghost_name) × Put line.out.now line.at (take l.b-index l.s) l.self.at l.self.out.now
