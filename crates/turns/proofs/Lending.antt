-- Tables lent in part: what comes back stands before the rest, and what is lent next. Assumes nothing.
use Rattle.std.specs.Prelude.{ℕ, ◌+◌, ◌≡◌, refl, List, ◌++◌, length, take, drop}
use Rattle.std.proofs.Common.{length-append, sym, ap, ◌∙◌}
use Rattle.std.proofs.lemmas.List.{take-append-drop}
use Rattle.rules.specs.Tables as rule
use Rattle.rules.specs.declared.Answer.{Answer}
use Rattle.turns.specs.declared.Tables.{Tables}
use Rattle.turns.specs.Lent.{lent_in, with_lent, Answered}
use Rattle.turns.specs.Calls.{first_records, given_back, FirstOf}

-- what comes back of a part is as long as the part, so the whole is as long as before
as-long : (n : ℕ) (l v : List ℕ) → length v ≡ length (take n l) → length (v ++ drop n l) ≡ length l
as-long n l v e =
    length-append v (drop n l) ∙ ap (λ (k : ℕ). k + length (drop n l)) e ∙ sym (length-append (take n l) (drop n l)) ∙ ap length (take-append-drop n l)

-- A CALL ON THE FIRST n RECORDS: the code lends what the tables have of them
module _ (t : Tables) (n : ℕ) {i j : ℕ} (p : FirstOf n (length t.values.now) i) (q : FirstOf n (length t.words.now) j) where
  abbrev found : rule.Tables
  found = lent_in t

  abbrev lent_part : rule.Tables
  lent_part = rule.tables (take i found.values) (take j found.words) found.seats

  lent_is : lent_part ≡ first_records found n
  lent_is = rw (p.same found.values refl, q.same found.words refl)

  -- what comes back
  pub given_back_lem : (f : rule.Tables → rule.Outcome) {a : Answer} {v w s : List ℕ} → rule.answered a (rule.tables v w s) ≡ f lent_part
      → length v ≡ length (take i found.values) → length w ≡ length (take j found.words) → length s ≡ length found.seats
      → let o = f (first_records found n) in
      Answered (rule.answered o.answer (given_back found n o.tables)) t a
      (with_lent t (rule.tables (v ++ drop i found.values) (w ++ drop j found.words) s))
  given_back_lem f {a} {v} {w} {s} e lv lw ls =
      let g : rule.answered a (rule.tables v w s) ≡ f (first_records found n) = e ∙ ap f lent_is in
      record {
        answer = ap (λ (o : rule.Outcome). o.answer) g;
        lengths = record { values_are = as-long i found.values v lv; words_are = as-long j found.words w lw; seats_are = ls };
        tables =
            rw (p.rest found.values refl, q.rest found.words refl) (ap (λ (o : rule.Outcome). with_lent t (given_back found n o.tables)) g);
      }
