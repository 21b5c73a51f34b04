-- What each public function promises of its result `r`, one statement a function; `NAME-one` says that the statement leaves one result.
use Rattle.std.specs.Prelude.{ℕ, ◌≡◌, Bool, true, false, Result}
use Rattle.std.proofs.Common.{sym, ◌∙◌}
use Rattle.clock.specs.declared.Unfit.{Unfit}
use Rattle.clock.specs.declared.Parts.{Parts}
use Rattle.clock.specs.Word.{top, is_locked, distance, write_time, read_time, parts_of, with_lock, number, packed, fresh_at, extended_to}

-- two results that equal what the inputs fix
pub one_result : {A : Type 0} {fixed r q : A} → r ≡ fixed → q ≡ fixed → r ≡ q
one_result e f = e ∙ sym f

-- the number of a refusal
abbrev pub NumberIs : Unfit → ℕ → Type 0
NumberIs why r = r ≡ number why

pub NumberIs-one : (why : Unfit) (r q : ℕ) → NumberIs why r → NumberIs why q → r ≡ q
NumberIs-one why r q = one_result

-- the greatest time
abbrev pub TopIs : ℕ → Type 0
TopIs r = r ≡ top

pub TopIs-one : (r q : ℕ) → TopIs r → TopIs q → r ≡ q
TopIs-one r q = one_result

-- a word read apart
abbrev pub LockIs : ℕ → Bool → Type 0
LockIs w r = r ≡ is_locked w

pub LockIs-one : (w : ℕ) (r q : Bool) → LockIs w r → LockIs w q → r ≡ q
LockIs-one w r q = one_result

abbrev pub DistanceIs : ℕ → ℕ → Type 0
DistanceIs w r = r ≡ distance w

pub DistanceIs-one : (w r q : ℕ) → DistanceIs w r → DistanceIs w q → r ≡ q
DistanceIs-one w r q = one_result

abbrev pub WriteTimeIs : ℕ → ℕ → Type 0
WriteTimeIs w r = r ≡ write_time w

pub WriteTimeIs-one : (w r q : ℕ) → WriteTimeIs w r → WriteTimeIs w q → r ≡ q
WriteTimeIs-one w r q = one_result

abbrev pub ReadTimeIs : ℕ → ℕ → Type 0
ReadTimeIs w r = r ≡ read_time w

pub ReadTimeIs-one : (w r q : ℕ) → ReadTimeIs w r → ReadTimeIs w q → r ≡ q
ReadTimeIs-one w r q = one_result

abbrev pub PartsAre : ℕ → Parts → Type 0
PartsAre w r = r ≡ parts_of w

pub PartsAre-one : (w : ℕ) (r q : Parts) → PartsAre w r → PartsAre w q → r ≡ q
PartsAre-one w r q = one_result

-- a word packed, or refusal 2
abbrev pub PackedIs : Bool → ℕ → ℕ → Result ℕ Unfit → Type 0
PackedIs locked d t r = r ≡ packed locked d t

pub PackedIs-one : (locked : Bool) (d t : ℕ) (r q : Result ℕ Unfit) → PackedIs locked d t r → PackedIs locked d t q → r ≡ q
PackedIs-one locked d t r q = one_result

-- the same word, locked or not
abbrev pub LockedIs : ℕ → ℕ → Type 0
LockedIs w r = r ≡ with_lock true w

pub LockedIs-one : (w r q : ℕ) → LockedIs w r → LockedIs w q → r ≡ q
LockedIs-one w r q = one_result

abbrev pub UnlockedIs : ℕ → ℕ → Type 0
UnlockedIs w r = r ≡ with_lock false w

pub UnlockedIs-one : (w r q : ℕ) → UnlockedIs w r → UnlockedIs w q → r ≡ q
UnlockedIs-one w r q = one_result

-- the unlocked word with both times t, or refusal 2
abbrev pub FreshIs : ℕ → Result ℕ Unfit → Type 0
FreshIs t r = r ≡ fresh_at t

pub FreshIs-one : (t : ℕ) (r q : Result ℕ Unfit) → FreshIs t r → FreshIs t q → r ≡ q
FreshIs-one t r q = one_result

-- a word extended to a time, or refusal 2
abbrev pub ExtendedIs : ℕ → ℕ → Result ℕ Unfit → Type 0
ExtendedIs w t r = r ≡ extended_to w t

pub ExtendedIs-one : (w t : ℕ) (r q : Result ℕ Unfit) → ExtendedIs w t r → ExtendedIs w t q → r ≡ q
ExtendedIs-one w t r q = one_result
