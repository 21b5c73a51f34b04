-- What each public function promises, one statement a function (`numbered` and `last` by `Appended` of Text, with their lines).
-- `NAME-one` says that the statement leaves one answer and one content of the buffer.
use Rattle.std.specs.Prelude.{ℕ, ◌≤◌, ◌≡◌, List}
use Rattle.std.proofs.Common.{sym, ◌∙◌}
use Rattle.text.specs.Text.{most_digits, width_of, Appended}

-- how many decimal digits n has; the bounds are what a caller needs of it
pub record WidthIs (n r : ℕ) : Type 0 where
  pub is_width : r ≡ width_of n
  pub least : 1 ≤ r
  pub most : r ≤ most_digits

pub WidthIs-one : (n r q : ℕ) → WidthIs n r → WidthIs n q → r ≡ q
WidthIs-one n r q e f = e.is_width ∙ sym f.is_width

pub Appended-one : (out : List ℕ) (at : ℕ) (xs : List ℕ) (r q : ℕ) (a b : List ℕ) →
    Appended out at xs r a → Appended out at xs q b → (r ≡ q) × (a ≡ b)
Appended-one out at xs r q a b e f = (e.size ∙ sym f.size, e.text ∙ sym f.text)
