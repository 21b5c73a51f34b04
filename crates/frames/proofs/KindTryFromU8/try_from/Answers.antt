-- `Kind::try_from` meets its contract. Assumes nothing.
use Rattle.std.proofs.Common.{arith, refl}
use Rattle.std.proofs.lemmas.Bool.{ne_eqb}
use Rattle.frames.specs.Kinds.{kind_of}
use Rattle.frames.proofs.KindTryFromU8.try_from.Goals as goal

pub returns-in-0 : goal.returns-in-0
unfolding kind_of
returns-in-0 c = rw c.in-0.is refl

pub returns-in-1 : goal.returns-in-1
unfolding kind_of
returns-in-1 c = rw c.in-1.is refl

pub returns-in-2 : goal.returns-in-2
unfolding kind_of
returns-in-2 c = rw c.in-2.is refl

pub returns-in-3 : goal.returns-in-3
unfolding kind_of
returns-in-3 c = rw c.in-3.is refl

pub returns-in-4 : goal.returns-in-4
unfolding kind_of
returns-in-4 c = rw c.in-4.is refl

pub returns-in-5 : goal.returns-in-5
unfolding kind_of
returns-in-5 c = rw c.in-5.is refl

pub returns-in_default : goal.returns-in_default
unfolding kind_of
returns-in_default c =
    let byte = c.args.byte in
    simp (
      ne_eqb byte 0 (λ e. omega arith),
      ne_eqb byte 1 (λ e. omega arith),
      ne_eqb byte 2 (λ e. omega arith),
      ne_eqb byte 3 (λ e. omega arith),
      ne_eqb byte 4 (λ e. omega arith),
      ne_eqb byte 5 (λ e. omega arith),
    )
