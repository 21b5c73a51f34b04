-- `commit::judge` meets its contract. Assumes nothing.
use Rattle.std.proofs.Common.{◌≡◌, ◌∙◌, sym, cond, eq-eqb, le-ltb, lt-ltb, ne_eqb, ltb}
use Rattle.rules.specs.Advance.{by_word}
use Rattle.rules.specs.declared.Abort.TheVariants.{WordBlocked}
use Rattle.rules.specs.declared.Verdict.TheVariants.{Passes, Extends, Fails}
use Rattle.commit.proofs.judge.Goals as goal
use Rattle.commit.proofs.judge.Goals.{After-is_blocked}

pub returns-then-write_time-kept_write : goal.returns-then-write_time-kept_write
unfolding by_word
returns-then-write_time-kept_write c = simp (ne_eqb _ _ c.if-write_time-kept_write.true, ← c.write_time.ensures)

pub returns-then-own : goal.returns-then-own
unfolding by_word
returns-then-own c =
    simp (c.if-own.true, eq-eqb _ _ c.if-write_time-kept_write.false, ← c.write_time.ensures)

-- THE VERSION STANDS, and the record is not the seat's own: the lock decides, and then the read time
unowned : (c : After-is_blocked) →
    by_word c.args.kept_write c.args.time c.args.word c.args.own
    ≡ cond c.is_blocked.result (Fails WordBlocked) (cond (ltb c.read_time-read.result c.args.time) Extends Passes)
unfolding by_word
unowned c =
    simp (
      ← c.is_blocked.ensures _ c.is_locked.ensures c.read_time-read.ensures,
      ← c.read_time-read.ensures,
      c.if-own.false,
      eq-eqb _ _ c.if-write_time-kept_write.false,
      ← c.write_time.ensures,
    )

pub returns-then-is_blocked : goal.returns-then-is_blocked
returns-then-is_blocked c = sym (unowned (goal.at.returns-then-is_blocked c).After-is_blocked ∙ rw c.if-is_blocked.true)

pub returns-then-read-time : goal.returns-then-read-time
returns-then-read-time c = sym (unowned (goal.at.returns-then-read-time c).After-is_blocked ∙ rw (c.if-is_blocked.false, lt-ltb _ _ c.if-read-time.true))

pub returns : goal.returns
returns c = sym (unowned (goal.at.returns c).After-is_blocked ∙ rw (c.if-is_blocked.false, le-ltb _ _ c.if-read-time.false))
