use Rattle.std.proofs.Common.{◌≡◌, length}
use Rattle.std.proofs.lemmas.List.Edits.{sets}
use Rattle.text.specs.Text.{digits}
use Rattle.text.proofs.Line.number.Given as goal

-- i digits are to be put, those of `rest`
abbrev pub invariant-loop-i : goal.invariant-loop-i
invariant-loop-i l =
    let line = l.initial.self in
    (l.self.out.ghost_name ≡ line.out.ghost_name)
    × (l.self.at ≡ line.at)
    × (length l.self.out.now ≡ length line.out.now)
    × (sets l.self.out.now line.at (digits l.i l.rest) ≡ sets line.out.now line.at (digits l.k l.n))
