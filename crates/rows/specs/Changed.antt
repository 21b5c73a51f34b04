-- The rows that the rules' changes make, as lists, and what each holds, number by number.
use Rattle.std.specs.Prelude.{ℕ, zero, suc, ◌+◌, ◌-◌, ◌≤◌, ◌<◌, ◌≡◌, ◌≢◌, List, length, get_or, set, replicate}
use Rattle.std.proofs.Common.{sym, ◌∙◌, arith, eq-or-lt_of_le, le_of_suc-le-suc, get_or-set_same, ext_get_or}
use Rattle.std.proofs.Math.Path.{refl}
use Rattle.std.proofs.Math.Logic.{⊎_elim}
use Rattle.std.proofs.Math.ListN.{length-set}
use Rattle.std.proofs.lemmas.List.{length-replicate}
use Rattle.std.proofs.Math.Seq.{get_or-set_other}
use Rattle.rules.specs.Layout.{row_width, write_width, phase_at, owner_at, position_at, reads_at, writes_at, time_at, read_item_at, read_value_at}
use Rattle.rules.specs.Layout.{kept_write_at, kept_read_at, write_item_at, write_value_at, phase, owner, position, reads, writes, time, read_item}
use Rattle.rules.specs.Layout.{read_value, kept_write, kept_read, write_item, write_value}

-- THE FREE ROW: zero throughout
abbrev pub free_row : List ℕ
free_row = replicate row_width 0

pub all_zero : (n f : ℕ) → ◌≡◌ {A = ℕ} (get_or (replicate n 0) f 0) 0
all_zero zero f = refl
all_zero (suc n) zero = refl
all_zero (suc n) (suc f) = all_zero n f

pub free_at : (f : ℕ) → get_or free_row f 0 ≡ 0
free_at f = all_zero row_width f

-- the first n numbers of a row zero
unfoldable pub zeroed : List ℕ → ℕ → List ℕ
zeroed g zero = g
zeroed g (suc n) = set (zeroed g n) n 0

length-zeroed : (g : List ℕ) (n : ℕ) → length (zeroed g n) ≡ length g
unfolding zeroed
length-zeroed g zero = refl
length-zeroed g (suc n) = length-set (zeroed g n) n 0 ∙ length-zeroed g n

zeroed_at : (g : List ℕ) (n f : ℕ) → n ≤ length g → f < n → get_or (zeroed g n) f 0 ≡ 0
unfolding zeroed
zeroed_at g zero f h l = absurd (omega arith)
zeroed_at g (suc n) f h l =
    ⊎_elim
    (λ (e : f ≡ n). rw e (get_or-set_same (zeroed g n) n 0 0 (let z = length-zeroed g n in omega arith)))
    (λ (m : f < n). get_or-set_other (zeroed g n) n f 0 0 (omega arith) ∙ zeroed_at g n f (omega arith) m)
    (eq-or-lt_of_le (le_of_suc-le-suc l))

pub zeroed-free : (g : List ℕ) → length g ≡ row_width → zeroed g row_width ≡ free_row
zeroed-free g n =
    let z = length-zeroed g row_width in
    ext_get_or 0 (zeroed g row_width) free_row (z ∙ n ∙ sym (length-replicate {A = ℕ} row_width 0))
    (λ f h. zeroed_at g row_width f (omega arith) (omega arith) ∙ sym (free_at f))

-- AN OPENED ROW: zero but for phase 1 and the owner
abbrev pub opened_row : ℕ → List ℕ
opened_row o = set (set free_row phase_at 1) owner_at o

pub record Opened (h : List ℕ) (o : ℕ) : Type 0 where
  pub size : length h ≡ row_width
  pub is_phase : phase h ≡ 1
  pub is_owner : owner h ≡ o
  pub rest : (f : ℕ) → f ≢ phase_at → f ≢ owner_at → get_or h f 0 ≡ 0

pub opened-row : (o : ℕ) → Opened (opened_row o) o
opened-row o =
    let m : length free_row ≡ row_width = length-replicate {A = ℕ} row_width 0 in
    let n : length (set free_row phase_at 1) ≡ row_width = length-set free_row phase_at 1 ∙ m in
    record {
      size = length-set (set free_row phase_at 1) owner_at o ∙ n;
      is_phase = get_or-set_other (set free_row phase_at 1) owner_at phase_at o 0 (omega arith) ∙ get_or-set_same free_row phase_at 1 0 (omega arith);
      is_owner = get_or-set_same (set free_row phase_at 1) owner_at o 0 (omega arith);
      rest = λ f a b. get_or-set_other (set free_row phase_at 1) owner_at f o 0 b ∙ get_or-set_other free_row phase_at f 1 0 a ∙ free_at f;
    }

-- A NUDGED ROW: another phase, position and time, all else as it was
abbrev pub moved_row : List ℕ → ℕ → ℕ → List ℕ
moved_row g ph p = set (set g phase_at ph) position_at p

pub record Nudged (g h : List ℕ) (ph p t : ℕ) : Type 0 where
  pub size : length h ≡ row_width
  pub is_phase : phase h ≡ ph
  pub is_position : position h ≡ p
  pub is_time : time h ≡ t
  pub rest : (f : ℕ) → f ≢ phase_at → f ≢ position_at → f ≢ time_at → get_or h f 0 ≡ get_or g f 0

pub not_nudged : (g : List ℕ) → length g ≡ row_width → Nudged g g (phase g) (position g) (time g)
not_nudged g n = record { size = n; is_phase = refl; is_position = refl; is_time = refl; rest = λ f a b c. refl }

module _ {g h : List ℕ} {ph p t : ℕ} (n : Nudged g h ph p t) (v : ℕ) where
  pub nudge_phase : Nudged g (set h phase_at v) v p t
  nudge_phase =
      record {
        size = length-set h phase_at v ∙ n.size;
        is_phase = get_or-set_same h phase_at v 0 (omega (arith, n.size));
        is_position = get_or-set_other h phase_at position_at v 0 (omega arith) ∙ n.is_position;
        is_time = get_or-set_other h phase_at time_at v 0 (omega arith) ∙ n.is_time;
        rest = λ f a b c. get_or-set_other h phase_at f v 0 a ∙ n.rest f a b c;
      }

  pub nudge_position : Nudged g (set h position_at v) ph v t
  nudge_position =
      record {
        size = length-set h position_at v ∙ n.size;
        is_phase = get_or-set_other h position_at phase_at v 0 (omega arith) ∙ n.is_phase;
        is_position = get_or-set_same h position_at v 0 (omega (arith, n.size));
        is_time = get_or-set_other h position_at time_at v 0 (omega arith) ∙ n.is_time;
        rest = λ f a b c. get_or-set_other h position_at f v 0 b ∙ n.rest f a b c;
      }

  pub nudge_time : Nudged g (set h time_at v) ph p v
  nudge_time =
      record {
        size = length-set h time_at v ∙ n.size;
        is_phase = get_or-set_other h time_at phase_at v 0 (omega arith) ∙ n.is_phase;
        is_position = get_or-set_other h time_at position_at v 0 (omega arith) ∙ n.is_position;
        is_time = get_or-set_same h time_at v 0 (omega (arith, n.size));
        rest = λ f a b c. get_or-set_other h time_at f v 0 c ∙ n.rest f a b c;
      }

-- A ROW WITH A NEW READ ENTRY, after those it had
abbrev pub noted_row : List ℕ → ℕ → ℕ → ℕ → ℕ → List ℕ
noted_row g item value kept_w kept_r =
    let n : ℕ = reads g in
    set (set (set (set (set g (read_item_at n) item) (read_value_at n) value) (kept_write_at n) kept_w) (kept_read_at n) kept_r) reads_at (n + 1)

pub record WithRead (g h : List ℕ) (item value kept_w kept_r : ℕ) : Type 0 where
  pub size : length h ≡ row_width
  pub count : reads h ≡ reads g + 1
  pub has_item : read_item h (reads g) ≡ item
  pub has_value : read_value h (reads g) ≡ value
  pub has-kept_write : kept_write h (reads g) ≡ kept_w
  pub has-kept_read : kept_read h (reads g) ≡ kept_r
  pub before : (f : ℕ) → f ≢ reads_at → f < read_item_at (reads g) → get_or h f 0 ≡ get_or g f 0
  pub behind : (f : ℕ) → read_item_at (reads g + 1) ≤ f → get_or h f 0 ≡ get_or g f 0

pub noted-row : (g : List ℕ) (item value kept_w kept_r : ℕ) → length g ≡ row_width → read_item_at (reads g + 1) ≤ row_width →
    WithRead g (noted_row g item value kept_w kept_r) item value kept_w kept_r
noted-row g item value kept_w kept_r size room =
    record {
      size = s5;
      count = get_or-set_same g4 reads_at (n + 1) 0 (omega (arith, s4));
      has_item =
          head (read_item_at n) (omega arith)
          ∙ get_or-set_other g3 (kept_read_at n) (read_item_at n) kept_r 0 (omega arith)
          ∙ get_or-set_other g2 (kept_write_at n) (read_item_at n) kept_w 0 (omega arith)
          ∙ get_or-set_other g1 (read_value_at n) (read_item_at n) value 0 (omega arith)
          ∙ get_or-set_same g (read_item_at n) item 0 (omega arith);
      has_value =
          head (read_value_at n) (omega arith)
          ∙ get_or-set_other g3 (kept_read_at n) (read_value_at n) kept_r 0 (omega arith)
          ∙ get_or-set_other g2 (kept_write_at n) (read_value_at n) kept_w 0 (omega arith)
          ∙ get_or-set_same g1 (read_value_at n) value 0 (omega (arith, s1));
      has-kept_write = head (kept_write_at n) (omega arith) ∙ get_or-set_other g3 (kept_read_at n) (kept_write_at n) kept_r 0 (omega arith)
          ∙ get_or-set_same g2 (kept_write_at n) kept_w 0 (omega (arith, s2));
      has-kept_read = head (kept_read_at n) (omega arith) ∙ get_or-set_same g3 (kept_read_at n) kept_r 0 (omega (arith, s3));
      before = λ f d l. rest f d (omega arith) (omega arith) (omega arith) (omega arith);
      behind = λ f l. rest f (omega arith) (omega arith) (omega arith) (omega arith) (omega arith);
    }
  where
    n : ℕ
    n = reads g

    g1 : List ℕ
    g1 = set g (read_item_at n) item

    g2 : List ℕ
    g2 = set g1 (read_value_at n) value

    g3 : List ℕ
    g3 = set g2 (kept_write_at n) kept_w

    g4 : List ℕ
    g4 = set g3 (kept_read_at n) kept_r

    s1 : length g1 ≡ row_width
    s1 = length-set g (read_item_at n) item ∙ size

    s2 : length g2 ≡ row_width
    s2 = length-set g1 (read_value_at n) value ∙ s1

    s3 : length g3 ≡ row_width
    s3 = length-set g2 (kept_write_at n) kept_w ∙ s2

    s4 : length g4 ≡ row_width
    s4 = length-set g3 (kept_read_at n) kept_r ∙ s3

    s5 : length (set g4 reads_at (n + 1)) ≡ row_width
    s5 = length-set g4 reads_at (n + 1) ∙ s4

    head : (f : ℕ) → f ≢ reads_at → get_or (set g4 reads_at (n + 1)) f 0 ≡ get_or g4 f 0
    head f d = get_or-set_other g4 reads_at f (n + 1) 0 d

    rest : (f : ℕ) → f ≢ reads_at → f ≢ read_item_at n → f ≢ read_value_at n → f ≢ kept_write_at n → f ≢ kept_read_at n
        → get_or (set g4 reads_at (n + 1)) f 0 ≡ get_or g f 0
    rest f d a b c e =
        head f d ∙ get_or-set_other g3 (kept_read_at n) f kept_r 0 e ∙ get_or-set_other g2 (kept_write_at n) f kept_w 0 c
        ∙ get_or-set_other g1 (read_value_at n) f value 0 b ∙ get_or-set_other g (read_item_at n) f item 0 a

-- A SLIDE: the last k of a row's numbers below place e, each moved up by w places
unfoldable pub slid_row : List ℕ → ℕ → ℕ → ℕ → List ℕ
slid_row g e w zero = g
slid_row g e w (suc k) = set (slid_row g e w k) (e - suc k + w) (get_or g (e - suc k) 0)

module _ (g : List ℕ) (e w : ℕ) where
  pub length-slid : (k : ℕ) → length (slid_row g e w k) ≡ length g
  unfolding slid_row
  length-slid zero = refl
  length-slid (suc k) = length-set (slid_row g e w k) (e - suc k + w) (get_or g (e - suc k) 0) ∙ length-slid k

  -- what stands below and behind stays
  pub slid_below : (k f : ℕ) → k ≤ e → f < e - k + w → get_or (slid_row g e w k) f 0 ≡ get_or g f 0
  unfolding slid_row
  slid_below zero f h l = refl
  slid_below (suc k) f h l =
      get_or-set_other (slid_row g e w k) (e - suc k + w) f (get_or g (e - suc k) 0) 0 (omega arith) ∙ slid_below k f (omega arith) (omega arith)

  pub slid-behind : (k f : ℕ) → k ≤ e → e + w ≤ f → get_or (slid_row g e w k) f 0 ≡ get_or g f 0
  unfolding slid_row
  slid-behind zero f h l = refl
  slid-behind (suc k) f h l = get_or-set_other (slid_row g e w k) (e - suc k + w) f (get_or g (e - suc k) 0) 0 (omega arith) ∙ slid-behind k f (omega arith) l

  -- the k numbers stand w places further up
  pub slid_up : (k f : ℕ) → k ≤ e → e + w ≤ length g → e - k ≤ f → f < e → get_or (slid_row g e w k) (f + w) 0 ≡ get_or g f 0
  unfolding slid_row
  slid_up zero f h room a b = absurd (omega arith)
  slid_up (suc k) f h room a b =
      ⊎_elim
      (λ (q : e - suc k ≡ f). rw (← q) (get_or-set_same (slid_row g e w k) (e - suc k + w) (get_or g (e - suc k) 0) 0 (let z = length-slid k in omega arith)))
      (λ (m : e - suc k < f). get_or-set_other (slid_row g e w k) (e - suc k + w) (f + w) (get_or g (e - suc k) 0) 0 (omega arith)
      ∙ slid_up k f (omega arith) room (omega arith) b)
      (eq-or-lt_of_le a)

-- A ROW WITH A NEW WRITE ENTRY at place i: those from there on stand one place further up
unfoldable pub placed_row : List ℕ → ℕ → ℕ → ℕ → List ℕ
placed_row g i item value =
    let n : ℕ = writes g in
    set (set (set (slid_row g (write_item_at n) write_width (write_item_at n - write_item_at i)) (write_item_at i) item) (write_value_at i) value)
    writes_at (n + 1)

pub record WithWrite (g h : List ℕ) (i item value : ℕ) : Type 0 where
  pub size : length h ≡ row_width
  pub count : writes h ≡ writes g + 1
  pub has_item : write_item h i ≡ item
  pub has_value : write_value h i ≡ value
  pub before : (f : ℕ) → f ≢ writes_at → f < write_item_at i → get_or h f 0 ≡ get_or g f 0
  pub up : (f : ℕ) → write_item_at i ≤ f → f < write_item_at (writes g) → get_or h (f + write_width) 0 ≡ get_or g f 0
  pub behind : (f : ℕ) → write_item_at (writes g + 1) ≤ f → get_or h f 0 ≡ get_or g f 0

pub placed_row_lem : (g : List ℕ) (i item value : ℕ) → length g ≡ row_width → i ≤ writes g → write_item_at (writes g + 1) ≤ row_width →
    WithWrite g (placed_row g i item value) i item value
unfolding placed_row
placed_row_lem g i item value size low room =
    record {
      size = length-set g2 writes_at (n + 1) ∙ s2;
      count = get_or-set_same g2 writes_at (n + 1) 0 (omega (arith, s2));
      has_item = head (write_item_at i) (omega arith) ∙ get_or-set_other g1 (write_value_at i) (write_item_at i) value 0 (omega arith)
          ∙ get_or-set_same g0 (write_item_at i) item 0 (omega (arith, s0));
      has_value = head (write_value_at i) (omega arith) ∙ get_or-set_same g1 (write_value_at i) value 0 (omega (arith, s1));
      before = λ f d l. rest f d (omega arith) (omega arith) ∙ slid_below g e write_width k f (omega arith) (omega arith);
      up = λ f a b. rest (f + write_width) (omega arith) (omega arith) (omega arith) ∙ slid_up g e write_width k f (omega arith) (omega arith) (omega arith) b;
      behind = λ f l. rest f (omega arith) (omega arith) (omega arith) ∙ slid-behind g e write_width k f (omega arith) (omega arith);
    }
  where
    n : ℕ
    n = writes g

    e : ℕ
    e = write_item_at n

    k : ℕ
    k = write_item_at n - write_item_at i

    g0 : List ℕ
    g0 = slid_row g e write_width k

    g1 : List ℕ
    g1 = set g0 (write_item_at i) item

    g2 : List ℕ
    g2 = set g1 (write_value_at i) value

    s0 : length g0 ≡ row_width
    s0 = length-slid g e write_width k ∙ size

    s1 : length g1 ≡ row_width
    s1 = length-set g0 (write_item_at i) item ∙ s0

    s2 : length g2 ≡ row_width
    s2 = length-set g1 (write_value_at i) value ∙ s1

    head : (f : ℕ) → f ≢ writes_at → get_or (set g2 writes_at (n + 1)) f 0 ≡ get_or g2 f 0
    head f d = get_or-set_other g2 writes_at f (n + 1) 0 d

    rest : (f : ℕ) → f ≢ writes_at → f ≢ write_item_at i → f ≢ write_value_at i → get_or (set g2 writes_at (n + 1)) f 0 ≡ get_or g0 f 0
    rest f d a b = head f d ∙ get_or-set_other g1 (write_value_at i) f value 0 b ∙ get_or-set_other g0 (write_item_at i) f item 0 a
