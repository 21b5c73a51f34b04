-- From Setup on the tables are in order, and refusal 3 is never given.
use Prim.Native.Nat.{ℕ, ◌<◌}
use mathlib.Core.Path.{◌≡◌, refl, sym, ap, ◌∙◌}
use mathlib.Core.Logic.{◌≢◌}
use mathlib.Core.List.{List, [], ◌∷◌}
use native.Mathlib.Omega.{arith}
use lib.ListN.{length, get_or}
use Rattle.rules.specs.Layout.{plan_width, row}
use Rattle.rules.specs.Tables.{Tables, Outcome}
use Rattle.rules.specs.Answers.{ready, refused, kind, number}
use Rattle.rules.specs.Calls.{Call, Setup, step, run}
use Rattle.rules.specs.declared.Answer.TheVariants.{Ready}
use Rattle.reach.specs.Reached.{Reached, records, Never3}
use Rattle.reach.proofs.InOrder.{Zero, InOrder}
use Rattle.reach.proofs.Effects.{Effect, refuses, changes, starts, effect_of, setup-effect, after_effect, as_many, in_order_run}

-- what answers ready has begun anew
record BegunAnew (c : Call) (o : Outcome) : Type 0 where
  start : ℕ
  plan : List ℕ
  is : c ≡ Setup start plan
  in_order : InOrder o.tables
  zeros : (s : ℕ) → Zero (row o.tables.seats s)
  laid : (i : ℕ) → i < plan_width → get_or o.tables.seats i 0 ≡ get_or plan i 0
  told : o.answer ≡ Ready (length o.tables.words)

begun_anew : {t : Tables} {c : Call} (o : Outcome) → Effect t c o → kind o.answer ≡ ready → BegunAnew c o
begun_anew o (refuses n d e) r = absurd (let q : kind o.answer ≡ refused = ap (λ (z : Outcome). kind z.answer) e in omega arith)
begun_anew o (changes s low f a h ch b told) r = absurd (told.plain r)
begun_anew o (starts start plan q e m b z p) r = record { start = start; plan = plan; is = q; in_order = b; zeros = z; laid = p; told = e ∙ ap Ready (sym m) }

module _ (t : Tables) (start : ℕ) (plan : List ℕ) (answered : kind (step t (Setup start plan)).answer ≡ ready) where
  pub begun_in_order : InOrder (step t (Setup start plan)).tables
  unfolding step
  begun_in_order = (begun_anew _ (setup-effect t start plan) answered).in_order

  pub begun-free : (s : ℕ) → Zero (row (step t (Setup start plan)).tables.seats s)
  unfolding step
  begun-free = (begun_anew _ (setup-effect t start plan) answered).zeros

  pub begun-plan : (i : ℕ) → i < plan_width → get_or (step t (Setup start plan)).tables.seats i 0 ≡ get_or plan i 0
  unfolding step
  begun-plan i l =
      let b = begun_anew _ (setup-effect t start plan) answered in
      let e : plan ≡ b.plan = cc b.is in
      b.laid i l ∙ ap (λ (p : List ℕ). get_or p i 0) (sym e)

-- as many records as that Setup told
words-run : (t : Tables) → InOrder t → (cs : List Call) → length (run t cs).words ≡ length t.words
unfolding run
words-run t k [] = refl
words-run t k (c ∷ cs) = let f = effect_of t k c in words-run (step t c).tables (after_effect t c (step t c) k f) cs ∙ as_many t c (step t c) f

pub records-told : (t : Tables) (z : Reached t) → length t.words ≡ records z
unfolding step
records-told t z =
    ap (λ (t : Tables). length t.words) (sym z.now)
    ∙ words-run _ (begun_in_order z.opening z.start z.plan z.answered) z.calls
    ∙ sym (ap number (begun_anew _ (setup-effect z.opening z.start z.plan) z.answered).told)

pub reached_in_order : (t : Tables) → Reached t → InOrder t
reached_in_order t z = rw z.now at (in_order_run _ (begun_in_order z.opening z.start z.plan z.answered) z.calls)

fair : {t : Tables} {c : Call} (o : Outcome) → Effect t c o → kind o.answer ≡ refused → number o.answer ≢ 3
fair o (refuses n d e) r = λ q. d (sym (ap (λ (z : Outcome). number z.answer) e) ∙ q)
fair o (changes s low f a h ch b told) r = told.fair r
fair o (starts start plan q e m b z p) r = absurd (let v : kind o.answer ≡ ready = ap kind e in omega arith)

-- REFUSAL 3 IS NEVER GIVEN
pub never_3 : (t : Tables) → Reached t → Never3 t
never_3 t z c r = fair _ (effect_of t (reached_in_order t z) c) r
