use Rattle.std.proofs.Common.{◌≡◌}
use Rattle.rules.specs.Advance.{released}
use Rattle.commit.proofs.Step.release.Given as goal

abbrev pub invariant-loop-i : goal.invariant-loop-i
invariant-loop-i l = l.words ≡ released l.initial.words l.row l.i
