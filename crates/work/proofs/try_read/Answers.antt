-- `work::try_read` meets its contract. Assumes nothing.
use Rattle.std.proofs.Common.{refl, rules, arith, ◌∙◌, sym}
use Rattle.std.proofs.lemmas.Result.{err_from_is_err_and}
use Rattle.rules.specs.Work.{read}
use Rattle.seats.specs.Outcomes.{same}
use Rattle.seats.specs.Ready.{in_use, ready_call, refused_by_name}
use Rattle.work.proofs.try_read.Goals as goal

pub returns-in_err-head : goal.returns-in_err-head
unfolding read
returns-in_err-head c =
    let p = err_from_is_err_and c.from_residual.result c.from_residual.ensures.1 in
    rw (p.1, p.2) (refused_by_name _ _ _ _ c.admit.ensures c.in_err-head.was)

pub read_in-requires : goal.read_in-requires
read_in-requires c =
    let used = in_use _ _ _ _ _ _ c.admit.ensures c.in_ok-head.was in
    record { reads_is = used.head.reads_is; few_reads = omega arith; writes_is = used.head.writes_is; few_writes = omega arith }

pub returns : goal.returns
unfolding read
returns c =
    same refl refl refl (search rules) ∙ c.read_in.ensures.outcome ∙ sym (ready_call _ _ _ _ _ _ c.admit.ensures c.in_ok-head.was _)
