-- `flow::open_tape` meets its contract. Assumes nothing.
use Rattle.std.proofs.Common.{arith}
use Rattle.tape.specs.Lines.{first_offset}
use Rattle.tape.specs.Room.{fit}
use Rattle.flow.proofs.Fronts.{fit_from, waits_on, calls_behind, other_version}
use Rattle.flow.proofs.open_tape.Goals as goal

pub bounds-buf-0 : goal.bounds-buf-0
bounds-buf-0 c =
    omega (arith, (fit c.requires).inside)

pub take_calls-requires : goal.take_calls-requires
take_calls-requires c =
    fit_from (fit c.requires) first_offset (omega arith)

-- no byte yet
pub returns-then-to-eq0 : goal.returns-then-to-eq0
returns-then-to-eq0 c =
    waits_on c.args.f _ _ _ _ c.requires c.if-to-eq0.true

-- a version byte 1
pub returns-then-buf-eq-VERSION : goal.returns-then-buf-eq-VERSION
returns-then-buf-eq-VERSION c =
    calls_behind c.args.f _ _ _ _ c.requires (omega arith) (omega (arith, c.if-buf-eq-VERSION.true)) c.take_calls.ensures

-- another
pub returns : goal.returns
returns c =
    other_version c.args.f _ _ _ _ c.requires (omega arith) c.if-buf-eq-VERSION.false c.stop-end.ensures
