-- `frames::split` meets its contract. Assumes nothing.
use Rattle.std.proofs.Common.{ℕ, ◌-◌, ◌<◌, ◌≤◌, ◌≡◌, List, arith, ap, ◌∙◌, length, take, drop, lt-ltb, le-ltb, le-leb}
use Rattle.std.proofs.lemmas.Bool.{lt-leb}
use Rattle.std.proofs.lemmas.List.{length-drop, take_rest}
use Rattle.frames.specs.declared.Frame.TheVariants.{Body}
use Rattle.frames.specs.Decode.{be16, length_size, frame_of}
use Rattle.frames.proofs.split.Goals as goal

-- what stands behind the length
rest_long : (t : List ℕ) → length (take (length t - length_size) (drop length_size t)) ≡ length t - length_size
rest_long t = ap length (take_rest t length_size) ∙ length-drop length_size t

pub returns-in-empty : goal.returns-in-empty
unfolding frame_of
returns-in-empty c = simp (le-ltb 0 (length c.args.t.now) (omega arith))

pub returns-in_default : goal.returns-in_default
unfolding frame_of
returns-in_default c =
    let n = length c.args.t.now in
    simp (lt-ltb 0 n (omega arith), lt-ltb n length_size (omega arith))

pub returns-then-n-rest : goal.returns-then-n-rest
unfolding frame_of
returns-then-n-rest c =
    let t = c.args.t.now in
    let h : be16 t 0 ≤ length t - length_size = omega (arith, rest_long t) in
    simp (lt-ltb 0 (length t) (omega arith), le-ltb (length t) length_size (omega arith), le-leb _ _ h) (ap Body (omega arith))

pub returns-else-n-rest : goal.returns-else-n-rest
unfolding frame_of
returns-else-n-rest c =
    let t = c.args.t.now in
    let h : length t - length_size < be16 t 0 = omega (arith, rest_long t) in
    simp (lt-ltb 0 (length t) (omega arith), le-ltb (length t) length_size (omega arith), lt-leb _ _ h)
