-- `frames::decode` meets its contract. Assumes nothing.
use Rattle.std.proofs.Common.{arith, le-ltb, sym, ◌∙◌, rules, length}
use Rattle.frames.specs.Decode.{decoded}
use Rattle.frames.proofs.ByKind.{decoded_as}
use Rattle.frames.proofs.decode.Goals as goal

pub returns-in_default : goal.returns-in_default
unfolding decoded
returns-in_default c = simp (le-ltb 0 (length c.args.b.now) (omega arith))

pub returns-in_err-try_from : goal.returns-in_err-try_from
returns-in_err-try_from c = search (rules, decoded_as c.args.b.now (omega arith) (sym c.try_from.ensures ∙ c.in_err-try_from.was))

pub returns : goal.returns
returns c = c.call_of.ensures ∙ decoded_as c.args.b.now (omega arith) (sym c.try_from.ensures ∙ c.in_ok-try_from.was)
