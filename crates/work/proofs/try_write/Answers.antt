-- `work::try_write` meets its contract. Assumes nothing.
use Rattle.std.proofs.Common.{refl, rules, ◌∙◌, sym, arith}
use Rattle.std.proofs.lemmas.Result.{err_from_is_err_and}
use Rattle.rules.specs.Tables.{tables}
use Rattle.rules.specs.Work.{write}
use Rattle.seats.specs.Outcomes.{same}
use Rattle.seats.specs.Ready.{in_use, ready_call, refused_by_name}
use Rattle.work.proofs.try_write.Goals as goal

pub returns-in_err-head : goal.returns-in_err-head
unfolding write
returns-in_err-head c =
    let p = err_from_is_err_and c.from_residual.result c.from_residual.ensures.1 in
    rw (p.1, p.2) (refused_by_name _ _ _ _ c.admit.ensures c.in_err-head.was)

pub write_in-requires : goal.write_in-requires
write_in-requires c =
    let used = in_use _ _ _ _ _ _ c.admit.ensures c.in_ok-head.was in
    record { reads_is = used.head.reads_is; few_reads = omega arith; writes_is = used.head.writes_is; few_writes = omega arith }

pub returns : goal.returns
unfolding write
returns c =
    let found = tables c.args.values.now c.args.words.now c.args.seats.now in
    let went = c.write_in.ensures found in
    same refl refl refl (search (rules, went)) ∙ went.outcome ∙ sym (ready_call _ _ _ _ _ _ c.admit.ensures c.in_ok-head.was _)
