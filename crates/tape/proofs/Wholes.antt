-- The whole tape: its calls and its last line, and the lines in a buffer. Assumes nothing.
use Rattle.std.proofs.Common.{ℕ, ◌+◌, ◌≤◌, ◌<◌, arith, zero-add, min, true, false, ◌≡◌, ap, sym, ◌∙◌, List, [], ◌∷◌, ◌++◌, append-nil, eqb, length}
use Rattle.std.proofs.Common.{drop, get_or, length-append, eq-eqb, ne_eqb, le-leb, take}
use Rattle.std.proofs.lemmas.List.Edits.{sets}
use Rattle.text.specs.Text.{greatest, bytes, last_line, put_in, Appended}
use Rattle.text.specs.Puts.{sets_at, put-fits}
use Rattle.turns.specs.declared.Tables.{Tables}
use Rattle.turns.specs.Faults.{no_version, cut_short, stop_line}
use Rattle.tape.specs.declared.Intake.{Intake}
use Rattle.tape.specs.Lines.{Fed, fed, end_line, last_of, version, first_offset, opening, call_lines, lines_of}
use Rattle.tape.specs.Inner.{capped, Ran, LinesIn}
use Rattle.tape.specs.Promises.{Written, Closed}
use Rattle.tape.specs.Room.{sets-front}
use Rattle.tape.proofs.Running.{saturated, capped_small, capped_below, capped_sum}

-- THE LAST LINE: a text that was appended, and where it ends
closed : {out xs : List ℕ} {at len r : ℕ} {out' : List ℕ} → Appended out at xs len out' → r ≡ min (at + len) greatest → Closed out at xs r out'
closed {at = at} p e = record { end = e ∙ saturated at _ ∙ ap (λ (m : ℕ). capped at m) p.size; text = p.text }

pub ends : (calls offset : ℕ) {out : List ℕ} {at len r : ℕ} {out' : List ℕ} → Appended out at (last_line (bytes "end") calls) len out'
    → r ≡ min (at + len) greatest → Closed out at (end_line true calls offset) r out'
unfolding end_line
ends calls offset p e = closed p e

pub cut_short_lem : (calls offset : ℕ) {out : List ℕ} {at len r : ℕ} {out' : List ℕ} → Appended out at (stop_line cut_short offset) len out'
    → r ≡ min (at + len) greatest → Closed out at (end_line false calls offset) r out'
unfolding end_line
cut_short_lem calls offset p e = closed p e

-- THE CALLS
abbrev ran : List ℕ → Fed
ran part = fed (length part) opening part

stop_lines : (part : List ℕ) → (ran part).stopped ≡ true → call_lines part ≡ (ran part).text
unfolding call_lines last_of
stop_lines part e = rw e (append-nil (ran part).text)

end_lines : (part : List ℕ) → (ran part).stopped ≡ false
    → call_lines part ≡ (ran part).text ++ end_line (eqb (length (ran part).left) 0) (ran part).state.calls (ran part).state.offset
unfolding call_lines last_of
end_lines part e = rw e

module _ (part out₀ : List ℕ) (r : Intake) {t t' : Tables} (buffer : List ℕ) (short : length out₀ < greatest)
    (d : Ran (ran part) t out₀ r t' buffer) where
  pub calls_stopped : r.stopped ≡ true → LinesIn (call_lines part) out₀ r.end buffer
  calls_stopped e =
      let k : call_lines part ≡ (ran part).text = stop_lines part (sym (ap (λ (x : Intake). x.stopped) d.answer_is) ∙ e) in
      rw k d.lines

  pub calls_end : (q : ℕ) (out : List ℕ) → r.stopped ≡ false → length buffer ≡ length out₀
      → Closed buffer r.end (end_line (eqb r.waiting 0) r.counts.calls r.counts.offset) q out → LinesIn (call_lines part) out₀ q out
  calls_end q out e same c =
      let f : Fed = ran part in
      let last : List ℕ = end_line (eqb (length f.left) 0) f.state.calls f.state.offset in
      let k : call_lines part ≡ f.text ++ last = end_lines part (sym (ap (λ (x : Intake). x.stopped) d.answer_is) ∙ e) in
      let x : end_line (eqb r.waiting 0) r.counts.calls r.counts.offset ≡ last =
      ap (λ (y : Intake). end_line (eqb y.waiting 0) y.counts.calls y.counts.offset) d.answer_is in
      let a : length (f.text ++ last) ≡ length f.text + length last = length-append f.text last in
      rw k
      (record {
        end =
            c.end ∙ ap (λ (y : List ℕ). capped r.end (length y)) x ∙ ap (λ (m : ℕ). capped m (length last)) d.lines.end
            ∙ capped_sum 0 (length f.text) (length last) ∙ ap (λ (m : ℕ). capped 0 m) (sym a);
        text = λ i.
            let ro : r.end ≡ 0 + length f.text = d.lines.end ∙ capped_small 0 (length f.text) (omega arith) in
            c.text ∙ ap (λ (y : List ℕ). put_in buffer r.end y) x ∙ sym (put-fits buffer r.end last (omega arith))
            ∙ ap (λ (l : List ℕ). sets l r.end last) (d.lines.text (omega arith))
            ∙ sets_at out₀ 0 r.end f.text last ro;
      })

-- THE VERSION BYTE
pub lines_one : (t : List ℕ) → get_or t 0 0 ≡ version → lines_of t ≡ call_lines (drop first_offset t)
unfolding lines_of
lines_one t e = rw (eq-eqb (get_or t 0 0) version e)

lines_not : (t : List ℕ) → (get_or t 0 0 ≡ version → ⊥) → lines_of t ≡ stop_line no_version 0
unfolding lines_of
lines_not t e = rw (ne_eqb (get_or t 0 0) version e)

-- as the code tests it
pub version_here : (t : List ℕ) → take 1 t ≡ version ∷ [] → get_or t 0 0 ≡ version
version_here [] e = ap (λ (l : List ℕ). get_or l 0 0) e
version_here (x ∷ t) e = ap (λ (l : List ℕ). get_or l 0 0) e

pub version_not : (t : List ℕ) → (take 1 t ≡ version ∷ [] → ⊥) → get_or t 0 0 ≡ version → ⊥
version_not [] h e = omega arith
version_not (x ∷ t) h e = h (ap (λ (y : ℕ). y ∷ []) e)

pub lines_bad : (t out : List ℕ) (n : ℕ) (out' : List ℕ) → (get_or t 0 0 ≡ version → ⊥) → n ≤ greatest
    → Appended out 0 (stop_line no_version 0) n out' → LinesIn (lines_of t) out n out'
lines_bad t out n out' bad small p =
    let line : List ℕ = stop_line no_version 0 in
    rw (lines_not t bad)
    (record {
      end = p.size ∙ sym (capped_small 0 (length line) (omega (arith, p.size)) ∙ zero-add (length line));
      text = λ i. p.text ∙ sym (put-fits out 0 line (omega arith));
    })

-- THE LINES IN A BUFFER
pub run_fits : (t buffer : List ℕ) (n : ℕ) (out : List ℕ) → n ≡ capped 0 (length (lines_of t)) → n ≤ length buffer → length buffer < greatest
    → (length (lines_of t) ≤ length buffer → out ≡ sets buffer 0 (lines_of t)) → Written t buffer n out
run_fits t buffer n out e h s f =
    let k : 0 + length (lines_of t) ≡ n = capped_below 0 (length (lines_of t)) n (sym e) (omega arith) in
    let i : length (lines_of t) ≤ length buffer = omega arith in
    record {
      count = rw (le-leb (length (lines_of t)) (length buffer) i) (omega arith);
      buffer = rw (le-leb (length (lines_of t)) (length buffer) i) (f i ∙ sets-front (lines_of t) buffer i);
    }
