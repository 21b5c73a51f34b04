-- What callers may rest on: how much room lines need, and when a buffer's front is fit to be absorbed. Assumes nothing.
use Rattle.std.specs.Prelude.{ℕ, ◌+◌, ◌-◌, ◌≤◌, ◌≡◌, Bool, true, false, List, ◌++◌, length, take, drop}
use Rattle.std.proofs.Common.{arith, zero-add, ap, sym, ◌∙◌, length-drop, length-append, le-ltb, eq-eqb, ltb-false, eqb-true}
use Rattle.std.proofs.lemmas.List.Edits.{sets, sets-eq}
use Rattle.std.proofs.lemmas.List as L
use Rattle.std.proofs.lemmas.Bool.{not-false}
use Rattle.text.specs.Text.{width_of, width_in, bytes, put_in}
use Rattle.text.specs.Puts.{length_last, put-fits}
use Rattle.rules.specs.Layout.{most_records}
use Rattle.rules.specs.Tests.{one_of}
use Rattle.rules.specs.Tables.{Tables}
use Rattle.rows.specs.Fine.{none_of}
use Rattle.turns.specs.Faults.{cut_short}
use Rattle.turns.specs.Turns.{last_room, says}
use Rattle.turns.specs.Laws.{width_small, stop_line_lem}
use Rattle.tape.specs.declared.Counts.{Counts}
use Rattle.tape.specs.Lines.{State, turn_from, further, Fed, behind, fed, end_line}
use Rattle.tape.specs.Runs.{turn_from_fits, fed_ind}
use Rattle.tape.specs.Promises.{at_front, room_for, far_off, unfit}

-- A LAST LINE
pub end_line_lem : (whole : Bool) (calls offset : ℕ) → length (end_line whole calls offset) ≤ last_room
unfolding end_line
end_line_lem true calls offset = omega (arith, length_last (bytes "end") calls, width_small calls)
end_line_lem false calls offset = stop_line_lem cut_short offset (unfold width_of width_in in omega arith)

-- A RUN'S LINES
abbrev Roomy : State → List ℕ → Fed → Type 0
Roomy s t o = length o.text ≤ room_for (length t)

roomy_says : (s : State) (t x : List ℕ) (used records : ℕ) (t' : Tables) (o : Fed) → turn_from s t ≡ says x used records t'
    → Roomy (further s used records t') (drop used t) o → Roomy s t (behind x o)
roomy_says s t x used records t' o e h =
    let g = turn_from_fits s t e in omega (arith, g.fits, g.within, length-append x o.text, length-drop used t)

pub text_room : (n : ℕ) (s : State) (t : List ℕ) → length t ≤ n → length (fed n s t).text ≤ room_for (length t)
text_room = fed_ind Roomy (λ s t e. omega arith) (λ s t x e. omega (arith, (turn_from_fits s t e).fits)) roomy_says

-- a text that has room stands at the front
pub sets-front : (xs l : List ℕ) → length xs ≤ length l → sets l 0 xs ≡ at_front xs l
sets-front xs l h = sets-eq xs l 0 (omega arith) ∙ ap (λ (n : ℕ). xs ++ drop n l) (zero-add (length xs))

pub put_front : (xs l : List ℕ) → length xs ≤ length l → put_in l 0 xs ≡ at_front xs l
put_front xs l h = sym (put-fits l 0 xs (omega arith)) ∙ sets-front xs l h

-- a part's part
pub drop-take : (l : List ℕ) (a b : ℕ) → a ≤ b → drop a (take b l) ≡ take (b - a) (drop a l)
drop-take l a b h = let e : b ≡ a + (b - a) = omega arith in ap (λ (n : ℕ). drop a (take n l)) e ∙ L.drop-take a (b - a) l

-- A BUFFER'S FRONT that is fit to be absorbed, and one that is not unfit, are the same
pub record Fit (buffer from to : ℕ) (k : Counts) (values words out : ℕ) : Type 0 where
  pub inside : to ≤ buffer
  pub behind : from ≤ to
  pub calls : k.calls ≤ far_off
  pub offset : k.offset ≤ far_off
  pub records : k.records ≤ most_records
  pub values_are : values ≡ most_records
  pub words_are : words ≡ most_records
  pub roomy : room_for to ≤ out

module _ {buffer from to : ℕ} {k : Counts} {values words out : ℕ} where
  pub fit : unfit buffer from to k values words out ≡ false → Fit buffer from to k values words out
  unfolding unfit
  fit e =
      let r = none_of _ e in
      let counts = r.1.1 in
      let lengths = counts.1.1.1 in
      record {
        inside = ltb-false _ _ r.0;
        behind = ltb-false _ _ r.1.0;
        calls = ltb-false _ _ counts.0;
        offset = ltb-false _ _ counts.1.0;
        records = ltb-false _ _ counts.1.1.0;
        values_are = eqb-true _ _ (not-false _ lengths.0);
        words_are = eqb-true _ _ (not-false _ lengths.1.0);
        roomy = ltb-false _ _ lengths.1.1.0;
      }

  pub not-unfit : Fit buffer from to k values words out → unfit buffer from to k values words out ≡ false
  unfolding unfit one_of
  not-unfit f =
      simp (
        le-ltb buffer to f.inside,
        le-ltb to from f.behind,
        le-ltb far_off k.calls f.calls,
        le-ltb far_off k.offset f.offset,
        le-ltb most_records k.records f.records,
        eq-eqb values most_records f.values_are,
        eq-eqb words most_records f.words_are,
        le-ltb out (room_for to) f.roomy,
      )
