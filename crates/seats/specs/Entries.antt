-- A row's entries, whose numbers travel together.
use Rattle.std.specs.Prelude.{ℕ, ◌≡◌, List}
use Rattle.std.proofs.Common.{ap, ◌∙◌}
use Rattle.rules.specs.Layout.{read_item, read_value, kept_write, kept_read, write_item, write_value}
use Rattle.seats.specs.declared.ReadEntry.{ReadEntry}
use Rattle.seats.specs.declared.WriteEntry.{WriteEntry}

abbrev pub read_entry : List ℕ → ℕ → ReadEntry
read_entry g i = record { item = read_item g i; value = read_value g i; kept_write = kept_write g i; kept_read = kept_read g i }

abbrev pub write_entry : List ℕ → ℕ → WriteEntry
write_entry g i = record { item = write_item g i; value = write_value g i }

-- the same, number by number
pub record IsRead (g : List ℕ) (i : ℕ) (e : ReadEntry) : Type 0 where
  pub item_is : e.item ≡ read_item g i
  pub value_is : e.value ≡ read_value g i
  pub kept_write_is : e.kept_write ≡ kept_write g i
  pub kept_read_is : e.kept_read ≡ kept_read g i

pub is_read : (g : List ℕ) (i : ℕ) {e : ReadEntry} → e ≡ read_entry g i → IsRead g i e
is_read g i q =
    record {
      item_is = ap (λ (e : ReadEntry). e.item) q;
      value_is = ap (λ (e : ReadEntry). e.value) q;
      kept_write_is = ap (λ (e : ReadEntry). e.kept_write) q;
      kept_read_is = ap (λ (e : ReadEntry). e.kept_read) q;
    }

pub record IsWrite (g : List ℕ) (i : ℕ) (e : WriteEntry) : Type 0 where
  pub item_is : e.item ≡ write_item g i
  pub value_is : e.value ≡ write_value g i

pub is_write : (g : List ℕ) (i : ℕ) {e : WriteEntry} → e ≡ write_entry g i → IsWrite g i e
is_write g i q = record { item_is = ap (λ (e : WriteEntry). e.item) q; value_is = ap (λ (e : WriteEntry). e.value) q }

-- an entry of a part of the table that is the row
pub is_read_of : {g part : List ℕ} (i : ℕ) {e : ReadEntry} → part ≡ g → e ≡ read_entry part i → IsRead g i e
is_read_of {g} i same q = is_read g i (q ∙ ap (λ (part : List ℕ). read_entry part i) same)

pub is_write_of : {g part : List ℕ} (i : ℕ) {e : WriteEntry} → part ≡ g → e ≡ write_entry part i → IsWrite g i e
is_write_of {g} i same q = is_write g i (q ∙ ap (λ (part : List ℕ). write_entry part i) same)
