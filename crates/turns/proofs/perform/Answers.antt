-- `turns::perform` meets its contract: each call is its rule on what it is lent. Assumes nothing.
use Rattle.std.proofs.Common.{ℕ, ◌≡◌, refl, List, ◌++◌, length, take, drop}
use Rattle.rules.specs.Tables as rule
use Rattle.rules.specs.Plan.{open_seat}
use Rattle.rules.specs.Work.{read, write}
use Rattle.rules.specs.Advance.{advance, abandon}
use Rattle.rules.specs.Calls.{step}
use Rattle.rules.specs.declared.Answer.{Answer}
use Rattle.turns.specs.Lent.{lent_in, with_lent, Answered}
use Rattle.turns.specs.Calls.{first_records, given_back, performed}
use Rattle.turns.proofs.Lending.{given_back_lem}
use Rattle.turns.proofs.perform.Goals as goal
use Rattle.turns.proofs.perform.Goals.{After-first_of-m}

-- what a call on the first records leaves
returned : {a : Answer} {v w s : List ℕ} (c : After-first_of-m) (f : rule.Tables → rule.Outcome)
    → let t = c.args.tables.now in
    let n = c.args.records in
    let o = f (first_records (lent_in t) n) in
    let i = c.first_of-n.result in
    let j = c.first_of-m.result in
    rule.answered a (rule.tables v w s) ≡ f (rule.tables (take i t.values.now) (take j t.words.now) t.seats.now)
    → length v ≡ length (take i t.values.now) → length w ≡ length (take j t.words.now) → length s ≡ length t.seats.now
    → Answered (rule.answered o.answer (given_back (lent_in t) n o.tables)) t a
    (with_lent t (rule.tables (v ++ drop i t.values.now) (w ++ drop j t.words.now) s))
returned c f = given_back_lem c.args.tables.now c.args.records c.first_of-n.ensures c.first_of-m.ensures f

-- the five calls that are no Setup: what comes back stands before the rest
pub returns-in-Open : goal.returns-in-Open
unfolding performed step
returns-in-Open c =
    let d = c.in-Open in
    let lent = (goal.at.returns-in-Open c).After-first_of-m in
    rw c.in-Open.is (returned lent (λ (x : rule.Tables). open_seat x d.owner) c.open.ensures refl refl c.open.auto.seats)

pub returns-in-Read : goal.returns-in-Read
unfolding performed step
returns-in-Read c =
    let d = c.in-Read in
    let lent = (goal.at.returns-in-Read c).After-first_of-m in
    rw c.in-Read.is (returned lent (λ (x : rule.Tables). read x d.owner d.seat d.item) c.read.ensures refl refl c.read.auto.seats)

pub returns-in-Write : goal.returns-in-Write
unfolding performed step
returns-in-Write c =
    let d = c.in-Write in
    let lent = (goal.at.returns-in-Write c).After-first_of-m in
    rw c.in-Write.is (returned lent (λ (x : rule.Tables). write x d.owner d.seat d.item d.value) c.write.ensures refl refl c.write.auto.seats)

pub returns-in-Advance : goal.returns-in-Advance
unfolding performed step
returns-in-Advance c =
    let d = c.in-Advance in
    let lent = (goal.at.returns-in-Advance c).After-first_of-m in
    let long = c.advance.auto in
    rw c.in-Advance.is (returned lent (λ (x : rule.Tables). advance x d.owner d.seat) c.advance.ensures long.values long.words long.seats)

pub returns-in-Abandon : goal.returns-in-Abandon
unfolding performed step
returns-in-Abandon c =
    let d = c.in-Abandon in
    let lent = (goal.at.returns-in-Abandon c).After-first_of-m in
    rw c.in-Abandon.is (returned lent (λ (x : rule.Tables). abandon x d.owner d.seat) c.abandon.ensures refl c.abandon.auto.words c.abandon.auto.seats)
