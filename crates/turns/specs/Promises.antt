-- The statement of each public function (`stop` by `Appended` of text, with its line), and that it leaves one answer and one content of what is lent.
use Rattle.std.specs.Prelude.{ℕ, ◌≡◌, List}
use Rattle.std.proofs.Common.{sym, ◌∙◌}
use Rattle.text.specs.Text.{put_in}
use Rattle.turns.specs.declared.Tables.{Tables}
use Rattle.turns.specs.declared.Turn.{Turn}
use Rattle.turns.specs.Lent.{lent_in, with_lent, SameLengths}
use Rattle.turns.specs.Turns.{Turned, turn_is, turn_text, turn_tables}

-- `take_turn`: the answer, the tables after the turn, each as long as before, and its line put into the output at `at`
pub record Taken (u : Turned) (t : Tables) (out : List ℕ) (at : ℕ) (r : Turn) (t' : Tables) (out' : List ℕ) : Type 0 where
  pub turn : r ≡ turn_is u
  pub tables : t' ≡ with_lent t (turn_tables u (lent_in t))
  pub text : out' ≡ put_in out at (turn_text u)
  pub lengths : SameLengths t t'

pub Taken-one : {u : Turned} {t : Tables} {out : List ℕ} {at : ℕ} {r q : Turn} {t₁ t₂ : Tables} {o₁ o₂ : List ℕ}
    → Taken u t out at r t₁ o₁ → Taken u t out at q t₂ o₂ → (r ≡ q) × (t₁ ≡ t₂) × (o₁ ≡ o₂)
Taken-one a b = (a.turn ∙ sym b.turn, a.tables ∙ sym b.tables, a.text ∙ sym b.text)
