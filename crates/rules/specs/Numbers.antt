-- The document's number of every refusal and of every abort, and what a caller is told.
use Rattle.std.specs.Prelude.{ℕ, ◌≡◌, refl, false, cond, eqb, Result, Ok, Err}
use Rattle.std.proofs.Common.{sym, ap, ◌∙◌}
use Rattle.clock.specs.Word.{number}
use Rattle.clock.specs.declared.Unfit.{Unfit}
use Rattle.clock.specs.declared.Unfit.TheVariants.{OutOfRange as Unfitting}
use Rattle.rules.specs.declared.Answer.{Answer}
use Rattle.rules.specs.declared.Answer.TheVariants.{Refused}
use Rattle.rules.specs.declared.Refusal.{Refusal}
use Rattle.rules.specs.declared.Refusal.TheVariants.{WrongSizes, OutOfRange, Damaged, NotHeld, TooLate, AtLimit, Crowded}
use Rattle.rules.specs.declared.Refusal.TheVariants.{ReadsFull, WritesFull, ItemLocked, BadPlan, SetupAgain}
use Rattle.rules.specs.declared.Abort.{Abort}
use Rattle.rules.specs.declared.Abort.TheVariants.{WordLocked, VersionGone, WordBlocked, TimeRunOut}

abbrev pub refusal_number : Refusal → ℕ
refusal_number WrongSizes = 1
refusal_number OutOfRange = 2
refusal_number Damaged = 3
refusal_number NotHeld = 4
refusal_number TooLate = 5
refusal_number AtLimit = 6
refusal_number Crowded = 7
refusal_number ReadsFull = 8
refusal_number WritesFull = 9
refusal_number ItemLocked = 10
refusal_number BadPlan = 11
refusal_number SetupAgain = 35

abbrev pub word_locked : ℕ
word_locked = 21

abbrev pub version_gone : ℕ
version_gone = 22

abbrev pub word_blocked : ℕ
word_blocked = 23

abbrev pub time_run_out : ℕ
time_run_out = 24

abbrev pub abort_number : Abort → ℕ
abort_number WordLocked = word_locked
abort_number VersionGone = version_gone
abort_number WordBlocked = word_blocked
abort_number TimeRunOut = time_run_out

-- what a caller is told by a call that may be refused
abbrev pub told : Result Answer Refusal → Answer
told (Ok a) = a
told (Err why) = Refused (refusal_number why)

-- what a test refuses for; 0 where it passes
abbrev pub refused_for : {A : Type 0} → Result A Refusal → ℕ
refused_for (Ok a) = 0
refused_for (Err why) = refusal_number why

-- the refusal of a number; any that has none is taken for the last
abbrev pub numbered_as : ℕ → Refusal
numbered_as n =
    cond (eqb n 1) WrongSizes
    (cond (eqb n 2) OutOfRange
    (cond (eqb n 3) Damaged
    (cond (eqb n 4) NotHeld
    (cond (eqb n 5) TooLate
    (cond (eqb n 6) AtLimit
    (cond (eqb n 7) Crowded
    (cond (eqb n 8) ReadsFull
    (cond (eqb n 9) WritesFull
    (cond (eqb n 10) ItemLocked
    (cond (eqb n 11) BadPlan SetupAgain))))))))))

reads_back : (why : Refusal) → numbered_as (refusal_number why) ≡ why
reads_back WrongSizes = refl
reads_back OutOfRange = refl
reads_back Damaged = refl
reads_back NotHeld = refl
reads_back TooLate = refl
reads_back AtLimit = refl
reads_back Crowded = refl
reads_back ReadsFull = refl
reads_back WritesFull = refl
reads_back ItemLocked = refl
reads_back BadPlan = refl
reads_back SetupAgain = refl

-- the clock's refusal has the same number here
pub unfit_number : (why : Unfit) → number why ≡ refusal_number OutOfRange
unfit_number Unfitting = refl

-- 0 is no refusal's number
pub not_zero : (why : Refusal) → eqb (refusal_number why) 0 ≡ false
not_zero WrongSizes = refl
not_zero OutOfRange = refl
not_zero Damaged = refl
not_zero NotHeld = refl
not_zero TooLate = refl
not_zero AtLimit = refl
not_zero Crowded = refl
not_zero ReadsFull = refl
not_zero WritesFull = refl
not_zero ItemLocked = refl
not_zero BadPlan = refl
not_zero SetupAgain = refl

-- no two refusals have one number
pub one_number : (why also : Refusal) → refusal_number why ≡ refusal_number also → why ≡ also
one_number why also e = sym (reads_back why) ∙ ap numbered_as e ∙ reads_back also
