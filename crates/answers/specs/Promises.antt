-- What each public function promises of its result `r`, one statement a function; `NAME-one` says that the statement leaves one result.
use Rattle.std.specs.Prelude.{ℕ, ◌≡◌, List}
use Rattle.std.proofs.Common.{sym, ◌∙◌}
use Rattle.rules.specs.Answers.{kind, number}
use Rattle.rules.specs.declared.Answer.{Answer}
use Rattle.answers.specs.Spelling.{letters_of}

-- the number of an answer's word
abbrev pub KindIs : Answer → ℕ → Type 0
KindIs a r = r ≡ kind a

pub KindIs-one : (a : Answer) (r q : ℕ) → KindIs a r → KindIs a q → r ≡ q
KindIs-one a r q e f = e ∙ sym f

-- the number that an answer carries
abbrev pub NumberIs : Answer → ℕ → Type 0
NumberIs a r = r ≡ number a

pub NumberIs-one : (a : Answer) (r q : ℕ) → NumberIs a r → NumberIs a q → r ≡ q
NumberIs-one a r q e f = e ∙ sym f

-- the letters of an answer's word
abbrev pub SpelledIs : Answer → List ℕ → Type 0
SpelledIs a r = r ≡ letters_of a

pub SpelledIs-one : (a : Answer) (r q : List ℕ) → SpelledIs a r → SpelledIs a q → r ≡ q
SpelledIs-one a r q e f = e ∙ sym f
