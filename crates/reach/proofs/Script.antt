-- The script of a transaction's answers, word by word.
use Prim.Native.Nat.{ℕ, suc, ◌+◌, ◌*◌, ◌<◌, ◌≤◌}
use mathlib.Core.Path.{◌≡◌, sym, ap, ◌∙◌}
use mathlib.Core.Logic.{◌≢◌, ◌↔◌}
use mathlib.Core.List.{List, [], ◌∷◌, ◌++◌}
use native.Mathlib.Omega.{arith}
use native.Mathlib.Numerals.{add-one}
use lib.ListN.{length, get_or, take, replicate, length-replicate, length-append, get_or-replicate, get_or-append}
use lib.Seq.{get_or-append-add, take-suc}
use Rattle.rules.specs.Answers.{ready, locked, timed, checked, sealed, stored, done, refused, aborted}
use Rattle.reach.specs.Life.{script, ScriptLength}

pub front : (k a : ℕ) (l : List ℕ) (i : ℕ) → i < k → get_or (replicate k a ++ l) i ready ≡ a
front k a l i h =
    let n : length (replicate k a) ≡ k = length-replicate k a in
    get_or-append (replicate k a) l ready i (omega arith) ∙ get_or-replicate k i a ready h

behind : (k a : ℕ) (l : List ℕ) (i : ℕ) → get_or (replicate k a ++ l) (k + i) ready ≡ get_or l i ready
behind k a l i = ap (λ (n : ℕ). get_or (replicate k a ++ l) (n + i) ready) (sym (length-replicate k a)) ∙ get_or-append-add (replicate k a) l i ready

module _ (w r : ℕ) where
  at_locked : (i : ℕ) → i < w → get_or (script w r) i ready ≡ locked
  unfolding script
  at_locked i h = front w locked _ i h

  at_timed : get_or (script w r) (w + 0) ready ≡ timed
  unfolding script
  at_timed = behind w locked _ 0

  at_checked : (i : ℕ) → i < r → get_or (script w r) (w + suc i) ready ≡ checked
  unfolding script
  at_checked i h = behind w locked _ (suc i) ∙ front r checked _ i h

  at_sealed : get_or (script w r) (w + suc (r + 0)) ready ≡ sealed
  unfolding script
  at_sealed = behind w locked _ (suc (r + 0)) ∙ behind r checked _ 0

  at_stored : (i : ℕ) → i < w → get_or (script w r) (w + suc (r + suc i)) ready ≡ stored
  unfolding script
  at_stored i h = behind w locked _ (suc (r + suc i)) ∙ behind r checked _ (suc i) ∙ front w stored _ i h

  at_done : get_or (script w r) (w + suc (r + suc (w + 0))) ready ≡ done
  unfolding script
  at_done = behind w locked _ (suc (r + suc (w + 0))) ∙ behind r checked _ (suc (w + 0)) ∙ behind w stored _ 0

pub script-length : ScriptLength
unfolding script
script-length w r =
    let a : length (replicate w locked) ≡ w = length-replicate w locked in
    let b : length (replicate r checked) ≡ r = length-replicate r checked in
    let c : length (replicate w stored) ≡ w = length-replicate w stored in
    let x = length-append (replicate w stored) (done ∷ []) in
    let y = length-append (replicate r checked) (sealed ∷ (replicate w stored ++ (done ∷ []))) in
    let z = length-append (replicate w locked) (timed ∷ (replicate r checked ++ (sealed ∷ (replicate w stored ++ (done ∷ []))))) in
    omega arith

-- the word k that the Advance after n others is answered with
pub data NextKind (w r n k : ℕ) : Type 0 where
  says_aborted : n < w + r + 2 → k ≡ aborted → NextKind w r n k
  says_locked : n < w → k ≡ locked → NextKind w r n k
  says_timed : n ≡ w + 0 → k ≡ timed → NextKind w r n k
  says_checked : (i : ℕ) → i < r → n ≡ w + suc i → k ≡ checked → NextKind w r n k
  says_sealed : n ≡ w + suc (r + 0) → k ≡ sealed → NextKind w r n k
  says_stored : (i : ℕ) → i < w → n ≡ w + suc (r + suc i) → k ≡ stored → NextKind w r n k
  says_done : n ≡ w + suc (r + suc (w + 0)) → k ≡ done → NextKind w r n k

pub kind-script : {w r n k : ℕ} → NextKind w r n k → k ≢ aborted → k ≡ get_or (script w r) n ready
kind-script (says_aborted l e) d = absurd (d e)
kind-script {w} {r} {n} (says_locked l e) d = e ∙ sym (at_locked w r n l)
kind-script {w} {r} (says_timed q e) d = rw q (e ∙ sym (at_timed w r))
kind-script {w} {r} (says_checked i l q e) d = rw q (e ∙ sym (at_checked w r i l))
kind-script {w} {r} (says_sealed q e) d = rw q (e ∙ sym (at_sealed w r))
kind-script {w} {r} (says_stored i l q e) d = rw q (e ∙ sym (at_stored w r i l))
kind-script {w} {r} (says_done q e) d = rw q (e ∙ sym (at_done w r))

pub kind-done : {w r n k : ℕ} → NextKind w r n k → (k ≡ done) ↔ (n + 1 ≡ 2 * w + r + 3)
kind-done (says_aborted l e) = (λ q. absurd (omega arith), λ q. absurd (omega arith))
kind-done (says_locked l e) = (λ q. absurd (omega arith), λ q. absurd (omega arith))
kind-done (says_timed p e) = (λ q. absurd (omega arith), λ q. absurd (omega arith))
kind-done (says_checked i l p e) = (λ q. absurd (omega arith), λ q. absurd (omega arith))
kind-done (says_sealed p e) = (λ q. absurd (omega arith), λ q. absurd (omega arith))
kind-done (says_stored i l p e) = (λ q. absurd (omega arith), λ q. absurd (omega arith))
kind-done (says_done p e) = (λ q. omega arith, λ q. e)

pub kind-sealed : {w r n k : ℕ} → NextKind w r n k → w + r + 2 ≤ n → k ≢ aborted
kind-sealed (says_aborted l e) h = absurd (omega arith)
kind-sealed (says_locked l e) h = λ q. omega arith
kind-sealed (says_timed p e) h = λ q. omega arith
kind-sealed (says_checked i l p e) h = λ q. omega arith
kind-sealed (says_sealed p e) h = λ q. omega arith
kind-sealed (says_stored i l p e) h = λ q. omega arith
kind-sealed (says_done p e) h = λ q. omega arith

-- none of them is a refusal
pub kind_given : {w r n k : ℕ} → NextKind w r n k → k ≢ refused
kind_given (says_aborted l e) = λ q. omega arith
kind_given (says_locked l e) = λ q. omega arith
kind_given (says_timed p e) = λ q. omega arith
kind_given (says_checked i l p e) = λ q. omega arith
kind_given (says_sealed p e) = λ q. omega arith
kind_given (says_stored i l p e) = λ q. omega arith
kind_given (says_done p e) = λ q. omega arith

-- the script's words so far, and one more
pub kind-next : {w r n k : ℕ} → NextKind w r n k → k ≢ aborted → n < length (script w r) → take (n + 1) (script w r) ≡ take n (script w r) ++ (k ∷ [])
kind-next {w} {r} {n} {k} x d l =
    ap (λ (i : ℕ). take i (script w r)) (add-one n) ∙ take-suc (script w r) n ready l ∙ ap (λ (i : ℕ). take n (script w r) ++ (i ∷ [])) (sym (kind-script x d))

-- Sealed comes after every lock, the time and every check
pub kind_sealing : {w r n k : ℕ} → NextKind w r n k → k ≡ sealed → n ≡ w + r + 1
kind_sealing (says_aborted l e) = λ q. absurd (omega arith)
kind_sealing (says_locked l e) = λ q. absurd (omega arith)
kind_sealing (says_timed p e) = λ q. absurd (omega arith)
kind_sealing (says_checked i l p e) = λ q. absurd (omega arith)
kind_sealing (says_sealed p e) = λ q. omega arith
kind_sealing (says_stored i l p e) = λ q. absurd (omega arith)
kind_sealing (says_done p e) = λ q. absurd (omega arith)
