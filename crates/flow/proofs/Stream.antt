-- A tape that comes in parts prints what it prints whole. Assumes nothing.
use Rattle.std.proofs.Common.{ℕ, ◌+◌, ◌-◌, ◌≤◌, ◌<◌, arith, le_refl, Bool, true, false, cond, true≢false, ◌≡◌, refl, ap, sym, ◌∙◌, subst, List, []}
use Rattle.std.proofs.Common.{◌∷◌, ◌++◌, append-nil, append_assoc, eqb, length, take, drop, get_or, length-drop, length-append, lt-ltb, le-ltb}
use Rattle.std.proofs.Common.{le-leb, eqb-true}
use Rattle.std.proofs.Math.ListN.{get_or-append}
use Rattle.std.proofs.Math.Seq.{take-append-le, drop-append-le}
use Rattle.std.proofs.lemmas.Bool.{eqb-false}
use Rattle.frames.specs.declared.Frame.{Frame}
use Rattle.frames.specs.declared.Frame.TheVariants.{Nothing, Short, Body}
use Rattle.frames.specs.Decode.{be16, length_size, frame_of, decoded}
use Rattle.rules.specs.Tables.{Tables}
use Rattle.turns.specs.Faults.{no_version, stop_line}
use Rattle.turns.specs.Turns.{Turned, waits, stops, says, body_turn, frame_turn, turn_of}
use Rattle.turns.specs.Laws.{Inside, inside, turn_nothing}
use Rattle.tape.specs.Lines.{State, turn_from, further, Fed, ended, behind, fed, last_of, version, opening, call_lines, lines_of}
use Rattle.tape.specs.Runs.{turn_from_fits, fed_waits, fed_stops, fed_says, fed_fuel, fed_ind, grown}
use Rattle.flow.proofs.Fronts.{opened_calls, opened_bad}
use Rattle.flow.specs.Parts.{Stand, Step, start, onward, opened, stepped, closing, printed, joined}

-- MORE BYTES: a call that is whole stays so when more follow
frame_append : (a b : List ℕ) (k : ℕ) → frame_of a ≡ Body k → frame_of (a ++ b) ≡ Body k
unfolding frame_of
frame_append a b k e =
    let w : Inside a (Body k) = subst (Inside a) e (inside a) in
    let n : length (a ++ b) ≡ length a + length b = length-append a b in
    let h0 : get_or (a ++ b) 0 0 ≡ get_or a 0 0 = get_or-append a b 0 0 (omega arith) in
    let h1 : get_or (a ++ b) (0 + 1) 0 ≡ get_or a (0 + 1) 0 = get_or-append a b 0 (0 + 1) (omega arith) in
    let k' : be16 (a ++ b) 0 ≡ k = omega (arith, h0, h1, w.1) in
    let p : 0 < length (a ++ b) = omega arith in
    let q : length_size ≤ length (a ++ b) = omega arith in
    let r : be16 (a ++ b) 0 ≤ length (a ++ b) - length_size = omega arith in
    simp (lt-ltb 0 (length (a ++ b)) p, le-ltb (length (a ++ b)) length_size q, le-leb (be16 (a ++ b) 0) (length (a ++ b) - length_size) r) (ap Body k')

body_append : (a b : List ℕ) (k : ℕ) → length_size + k ≤ length a → take k (drop length_size (a ++ b)) ≡ take k (drop length_size a)
body_append a b k h =
    ap (λ (l : List ℕ). take k l) (drop-append-le length_size a b (omega arith))
    ∙ take-append-le k (drop length_size a) b (omega (arith, length-drop length_size a))

-- a turn that is taken is taken the same when more bytes follow
abbrev Same : State → List ℕ → List ℕ → Turned → Type 0
Same s a b waits = Unit
Same s a b (stops x) = turn_from s (a ++ b) ≡ stops x
Same s a b (says x k records t') = turn_from s (a ++ b) ≡ says x k records t'

same_of : (s : State) (a b : List ℕ) (T : Turned) → turn_from s (a ++ b) ≡ T → Same s a b T
same_of s a b waits e = tt
same_of s a b (stops x) e = e
same_of s a b (says x k records t') e = e

abbrev frame_from : State → List ℕ → Frame → Turned
frame_from s t F = frame_turn (s.calls + 1) s.offset s.records s.tables t F

abbrev body_from : State → List ℕ → Turned
body_from s l = body_turn (s.calls + 1) s.offset s.records s.tables l (decoded l)

turn_append : (s : State) (a b : List ℕ) → Same s a b (turn_from s a)
unfolding turn_of frame_turn
turn_append s a b = go (frame_of a) refl
  where
    go : (F : Frame) → frame_of a ≡ F → Same s a b (frame_from s a F)
    go Nothing e = tt
    go Short e = tt
    go (Body k) e =
        let w : Inside a (Body k) = subst (Inside a) e (inside a) in
        same_of s a b (body_from s (take k (drop length_size a)))
        (ap (frame_from s (a ++ b)) (frame_append a b k e) ∙ ap (body_from s) (body_append a b k w.0))

same_as : (s : State) (a b : List ℕ) {T : Turned} → turn_from s a ≡ T → Same s a b T
same_as s a b e = subst (Same s a b) e (turn_append s a b)

-- TWO PARTS: what a first part says and leaves, and what the parts after it say
record Joins (b : List ℕ) (s : State) (a : List ℕ) (o : Fed) : Type 0 where
  stopped : o.stopped ≡ true → (F : ℕ) → length (a ++ b) ≤ F → ((fed F s (a ++ b)).text ≡ o.text) × ((fed F s (a ++ b)).stopped ≡ true)
  goes : o.stopped ≡ false → (F G : ℕ) → length (a ++ b) ≤ F → length (o.left ++ b) ≤ G
      → fed F s (a ++ b) ≡ behind o.text (fed G o.state (o.left ++ b))

joins_waits : (b : List ℕ) (s : State) (a : List ℕ) → turn_from s a ≡ waits → Joins b s a (ended [] s a false)
joins_waits b s a e = record { stopped = λ z. absurd (true≢false (sym z)); goes = λ _ F G h i. fed_fuel F G s (a ++ b) h i }

joins_stops : (b : List ℕ) (s : State) (a x : List ℕ) → turn_from s a ≡ stops x → Joins b s a (ended x s a true)
joins_stops b s a x e =
    record {
      stopped = λ _ F h. let w = fed_stops F s (a ++ b) x (same_as s a b e) h in (ap (λ (o : Fed). o.text) w, ap (λ (o : Fed). o.stopped) w);
      goes = λ z. absurd (true≢false z);
    }

joins_says : (b : List ℕ) (s : State) (a x : List ℕ) (k records : ℕ) (t' : Tables) (o : Fed) → turn_from s a ≡ says x k records t'
    → Joins b (further s k records t') (drop k a) o → Joins b s a (behind x o)
joins_says b s a x k records t' o e j =
    record {
      stopped = λ y F h.
          let r = j.stopped y (F - 1) (rest F h) in
          (ap (λ (o : Fed). o.text) (turn F h) ∙ ap (λ (l : List ℕ). x ++ l) r.0, ap (λ (o : Fed). o.stopped) (turn F h) ∙ r.1);
      goes = λ y F G h i.
          let more : Fed = fed G o.state (o.left ++ b) in
          turn F h ∙ ap (behind x) (j.goes y (F - 1) G (rest F h) i)
          ∙ ap (λ (l : List ℕ). record { text = l; state = more.state; left = more.left; stopped = more.stopped })
          (sym (append_assoc x o.text more.text));
    }
  where
    rest : (F : ℕ) → length (a ++ b) ≤ F → length (drop k a ++ b) ≤ F - 1
    rest F h = let z = turn_from_fits s a e in omega (arith, z.least, z.within, length-append a b, length-append (drop k a) b, length-drop k a)

    turn : (F : ℕ) → length (a ++ b) ≤ F → fed F s (a ++ b) ≡ behind x (fed (F - 1) (further s k records t') (drop k a ++ b))
    turn F h =
        let z = turn_from_fits s a e in
        fed_says F s (a ++ b) x k records t' (same_as s a b e) h
        ∙ ap (λ (l : List ℕ). behind x (fed (F - 1) (further s k records t') l)) (drop-append-le k a b z.within)

joins : (b : List ℕ) (s : State) (a : List ℕ) → Joins b s a (fed (length a) s a)
joins b s a = fed_ind (Joins b) (joins_waits b) (joins_stops b) (joins_says b) (length a) s a (le_refl (length a))

-- THE PARTS. Once the tape is stopped they print nothing
stepped_stopped : (s : Stand) (p : List ℕ) → s.stopped ≡ true → stepped s p ≡ record { text = []; stand = s }
unfolding stepped
stepped_stopped s p e =
    ap (λ (t : Bool). cond t (record { text = []; stand = s }) (cond s.begun (onward s.state (s.left ++ p)) (opened s.state (s.left ++ p)))) e

stopped_prints : (s : Stand) (ps : List (List ℕ)) → s.stopped ≡ true → printed s ps ≡ []
unfolding printed closing
stopped_prints s [] e = rw e
stopped_prints s (p ∷ ps) e = ap (λ (o : Step). o.text ++ printed o.stand ps) (stepped_stopped s p e) ∙ stopped_prints s ps e

last_stopped : (f : Fed) → f.stopped ≡ true → last_of f ≡ []
unfolding last_of
last_stopped f e = rw e

-- the lines of the bytes t, from what is kept
abbrev lines_from : State → List ℕ → List ℕ
lines_from s t = let f : Fed = fed (length t) s t in f.text ++ last_of f

abbrev going : State → List ℕ → Stand
going s l = record { begun = true; stopped = false; state = s; left = l }

-- the calls: what is left of a part waits, and goes before the next
going_prints : (s : State) (l : List ℕ) (ps : List (List ℕ)) → turn_from s l ≡ waits → printed (going s l) ps ≡ lines_from s (l ++ joined ps)
unfolding printed stepped closing last_of
going_prints s l [] w = sym (rw (append-nil, fed_waits (length l) s l w))
going_prints s l (p ∷ ps) w =
    go (fed (length (l ++ p)) s (l ++ p)) (joins (joined ps) s (l ++ p)) (grown (length (l ++ p)) s (l ++ p) (le_refl (length (l ++ p)))).wanting
    (λ s' l' v. going_prints s' l' ps v) (fed (length (l ++ p)) s (l ++ p)).stopped refl
  where
    go : (o : Fed) → Joins (joined ps) s (l ++ p) o → (o.stopped ≡ false → turn_from o.state o.left ≡ waits)
        → ((s' : State) (l' : List ℕ) → turn_from s' l' ≡ waits → printed (going s' l') ps ≡ lines_from s' (l' ++ joined ps))
        → (t : Bool) → o.stopped ≡ t
        → o.text ++ printed (record { begun = true; stopped = o.stopped; state = o.state; left = o.left }) ps ≡ lines_from s (l ++ (p ++ joined ps))
    go o j v ih true e =
        let F : Fed = fed (length ((l ++ p) ++ joined ps)) s ((l ++ p) ++ joined ps) in
        let k = j.stopped e (length ((l ++ p) ++ joined ps)) (le_refl _) in
        let after : Stand = record { begun = true; stopped = o.stopped; state = o.state; left = o.left } in
        rw (← append_assoc l p (joined ps), stopped_prints after ps e, last_stopped F k.1, k.0)
    go o j v ih false e =
        let G : Fed = fed (length (o.left ++ joined ps)) o.state (o.left ++ joined ps) in
        ap (λ (t : Bool). o.text ++ printed (record { begun = true; stopped = t; state = o.state; left = o.left }) ps) e
        ∙ ap (λ (x : List ℕ). o.text ++ x) (ih o.state o.left (v e))
        ∙ sym (append_assoc o.text G.text (last_of G))
        ∙ sym (ap (λ (f : Fed). f.text ++ last_of f) (j.goes e (length ((l ++ p) ++ joined ps)) (length (o.left ++ joined ps)) (le_refl _) (le_refl _)))
        ∙ ap (λ (t : List ℕ). lines_from s t) (append_assoc l p (joined ps))

-- THE THEOREM: in whatever parts it comes, empty ones too, a tape prints what it prints whole. Its first bytes are none yet, a version byte 1,
-- or another
pub parts_lines : (ps : List (List ℕ)) → printed start ps ≡ lines_of (joined ps)
unfolding printed stepped closing opened lines_of call_lines
parts_lines [] = refl
parts_lines ([] ∷ ps) = parts_lines ps
parts_lines ((v ∷ t) ∷ ps) = go (eqb v version) refl
  where
    some : 0 < length (v ∷ t)
    some = omega arith

    go : (b : Bool) → eqb v version ≡ b → printed start ((v ∷ t) ∷ ps) ≡ lines_of ((v ∷ t) ++ joined ps)
    go true e =
        ap (λ (o : Step). o.text ++ printed o.stand ps) (opened_calls opening (v ∷ t) some (eqb-true v version e))
        ∙ going_prints opening [] (t ∷ ps) (turn_nothing (opening.calls + 1) opening.offset opening.records opening.tables)
        ∙ sym (rw e)
    go false e =
        ap (λ (o : Step). o.text ++ printed o.stand ps) (opened_bad opening (v ∷ t) some (eqb-false v version e))
        ∙ ap (λ (x : List ℕ). stop_line no_version 0 ++ x) (stopped_prints (record { begun = false; stopped = true; state = opening; left = [] }) ps refl)
        ∙ append-nil (stop_line no_version 0)
        ∙ sym (rw e)
