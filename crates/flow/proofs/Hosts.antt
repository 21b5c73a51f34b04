-- A host that hands on what it read and writes what it is given prints the lines of the whole tape. Assumes nothing.
use Rattle.std.proofs.Common.{ℕ, ◌≤◌, ◌≡◌, refl, ap, sym, ◌∙◌, List, [], ◌∷◌, ◌++◌, append-nil, append_assoc, length, take, drop}
use Rattle.std.proofs.Math.Seq.{take-append_seam}
use Rattle.rules.specs.Tables as rule
use Rattle.turns.specs.declared.Tables.{Tables}
use Rattle.turns.specs.Lent.{lent_in}
use Rattle.tape.specs.Lines.{opening, lines_of}
use Rattle.tape.specs.Promises.{part}
use Rattle.tape.specs.Room.{put_front}
use Rattle.flow.specs.declared.Flow.{Flow}
use Rattle.flow.specs.Parts.{Stand, Step, start, stepped, closing, last_text, printed, joined}
use Rattle.flow.specs.Promises.{stand_of, closing_of, Started, Went, Finished}
use Rattle.flow.specs.Steps.{stands}
use Rattle.flow.specs.Host.{Host, begins, reads}
use Rattle.flow.proofs.Stream.{parts_lines}

-- what is still to be printed is what the flow's stand prints
record Reached (f : Flow) (t : rule.Tables) (buffer : List ℕ) (parts : List (List ℕ)) (written : List ℕ) : Type 0 where
  waits : length (take f.waiting buffer) ≡ f.waiting
  prints : (more : List (List ℕ)) → printed start (parts ++ more) ≡ written ++ printed (stand_of f t buffer) more

begun : {f : Flow} {buffer : List ℕ} → Started f → Reached f opening.tables buffer [] []
begun e = rw e record { waits = refl; prints = λ more. refl }

-- the text of a step, as it stands in the output
texted : (o : Step) (buffer : List ℕ) (t : Tables) (out : List ℕ) {r : Flow} {buffer' : List ℕ} {t' : Tables} {out' : List ℕ}
    → Went o buffer t out r buffer' t' out' → take r.end out' ≡ o.text
texted o buffer t out w = rw (w.answer_is, w.out_is) (take-append_seam o.text (drop (length o.text) out))

waited : (o : Step) (buffer : List ℕ) (t : Tables) (out : List ℕ) {r : Flow} {buffer' : List ℕ} {t' : Tables} {out' : List ℕ}
    → Went o buffer t out r buffer' t' out' → length (take r.waiting buffer') ≡ r.waiting
waited o buffer t out w =
    rw (w.answer_is, w.buffer_is) (ap length (take-append_seam o.stand.left (drop (length o.stand.left) buffer)))

reached : {f : Flow} {t : rule.Tables} {buffer : List ℕ} {parts : List (List ℕ)} {written : List ℕ} → Host f t buffer parts written
    → Reached f t buffer parts written
unfolding printed
reached (begins e) = begun e
reached (reads {f} {t} {buffer} {front} {out} {to} {r} {buffer'} {t'} {out'} {parts} {written} h same fine s) =
    let same-stand : stand_of f (lent_in t) front ≡ stand_of f (lent_in t) buffer = rw same in
    let p : List ℕ = part front f.waiting to in
    let o : Step = stepped (stand_of f (lent_in t) front) p in
    let w : Went o front t out r buffer' t' out' = s.done fine in
    record {
      waits = waited o front t out w;
      prints = λ more.
          ap (printed start) (append_assoc parts (p ∷ []) more)
          ∙ (reached h).prints (p ∷ more)
          ∙ ap (λ (x : Stand). written ++ printed x (p ∷ more)) (sym same-stand)
          ∙ sym (append_assoc written o.text (printed o.stand more))
          ∙ rw (texted o front t out w, stands o front t out w);
    }

-- THE FUNCTIONS' THEOREM
pub host_lines : {f : Flow} {t : rule.Tables} {buffer : List ℕ} {parts : List (List ℕ)} {written out : List ℕ} {r : ℕ} {out' : List ℕ}
    → Host f t buffer parts written → Finished f out r out' → length (closing_of f) ≤ length out
    → written ++ take r out' ≡ lines_of (joined parts)
unfolding printed
host_lines {f} {t} {buffer} {parts} {written} {out} h k room =
    let g = reached h in
    let last : last_text (stand_of f t buffer) ≡ closing_of f = ap (λ (n : ℕ). closing f.begun f.stopped n f.counts.calls f.counts.offset) g.waits in
    rw (k.size, k.text, put_front (closing_of f) out room, take-append_seam (closing_of f) (drop (length (closing_of f)) out))
    (sym (sym (parts_lines parts) ∙ ap (printed start) (sym (append-nil parts)) ∙ g.prints [] ∙ ap (λ (x : List ℕ). written ++ x) last))
