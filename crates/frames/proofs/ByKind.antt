-- A body's call by its kind: by the kind byte, as the document has it, and by the kind that this byte is. Assumes nothing.
use Rattle.std.specs.Prelude.{ℕ, ◌<◌, ◌≡◌, refl, Bool, true, false, cond, List, length, get_or, Result, Ok, Err, eqb}
use Rattle.std.proofs.Common.{sym, lt-ltb}
use Rattle.frames.specs.declared.Call.{Call}
use Rattle.frames.specs.declared.BadCall.{BadCall}
use Rattle.frames.specs.declared.BadCall.TheVariants.{Unknown}
use Rattle.frames.specs.declared.Kind.{Kind}
use Rattle.frames.specs.declared.Kind.TheVariants.{Setup, Open, Read, Write, Advance, Abandon}
use Rattle.frames.specs.Decode.{by_kind, decoded}
use Rattle.frames.specs.Kinds.{kind_of, call_of}

abbrev called : Result Kind BadCall → List ℕ → Result Call BadCall
called (Ok kind) b = call_of kind b
called (Err e) b = Err e

called_by : (k : ℕ) (b : List ℕ) → called (kind_of k) b ≡ by_kind k b
unfolding kind_of by_kind
called_by k b = go (eqb k 0) (eqb k 1) (eqb k 2) (eqb k 3) (eqb k 4) (eqb k 5)
  where
    go : (s o r w v n : Bool) →
        called (cond s (Ok Setup) (cond o (Ok Open) (cond r (Ok Read) (cond w (Ok Write) (cond v (Ok Advance) (cond n (Ok Abandon) (Err Unknown))))))) b
        ≡ cond s (call_of Setup b) (cond o (call_of Open b) (cond r (call_of Read b) (cond w (call_of Write b)
        (cond v (call_of Advance b) (cond n (call_of Abandon b) (Err Unknown))))))
    go true o r w v n = refl
    go false true r w v n = refl
    go false false true w v n = refl
    go false false false true v n = refl
    go false false false false true n = refl
    go false false false false false true = refl
    go false false false false false false = refl

-- a body with a kind byte
pub decoded_as : (b : List ℕ) {r : Result Kind BadCall} → 0 < length b → kind_of (get_or b 0 0) ≡ r → called r b ≡ decoded b
unfolding decoded
decoded_as b h e = rw (sym e) (simp (lt-ltb _ _ h) (called_by (get_or b 0 0) b))
