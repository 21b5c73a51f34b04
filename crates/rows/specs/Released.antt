-- The words with a row's locks cleared.
use Rattle.std.specs.Prelude.{ℕ, zero, suc, ◌≡◌, refl, List, length}
use Rattle.std.proofs.Common.{◌∙◌, length-set}
use Rattle.rules.specs.Layout.{write_item}
use Rattle.rules.specs.Advance.{released}

pub length-released : (words g : List ℕ) (n : ℕ) → length (released words g n) ≡ length words
unfolding released
length-released words g zero = refl
length-released words g (suc n) = length-set (released words g n) (write_item g n) _ ∙ length-released words g n
