-- `text::append` meets its contract. Assumes nothing.
use Rattle.std.proofs.Common.{◌<◌, ◌+◌, ◌≡◌, rules, arith, sym, ◌∙◌, length, take}
use Rattle.std.proofs.lemmas.List.{take_min}
use Rattle.text.specs.Text.{most_letters}
use Rattle.text.specs.Puts.{length-decimal, put-fits, put-not}
use Rattle.text.specs.Inner.{headed}
use Rattle.text.proofs.Laws.{length_headed, line_put}
use Rattle.text.proofs.append.Goals as goal
use Rattle.text.proofs.append.Goals.{After-width, then-at-out-via-then-at-out, then-at-out-via-else-at-out+then-len-out}

word_is : (c : After-width) → take most_letters c.args.letters.now ≡ take c.min.result c.args.letters.now
word_is c = sym (rw c.min.ensures (take_min most_letters c.args.letters.now))

-- the length that the code adds up
as_long : (c : After-width) → let a = c.args in
    let w = take c.min.result a.letters.now in c.head_width.result + length w + 1 + c.width.result + 1 ≡ length (headed a.head w a.x)
as_long c =
    let a = c.args in
    omega (arith, c.head_width.ensures.is_length, c.width.ensures.is_width, length_headed a.head (take c.min.result a.letters.now) a.x)

pub returns-then-at-out : goal.returns-then-at-out
returns-then-at-out c =
    let a = c.args in
    let w = (goal.at.returns-then-at-out c).After-width in
    let past : length a.out.now < a.at + length (headed a.head (take c.min.result a.letters.now) a.x) =
    elim c.then-at-out.branch [
      | then-at-out-via-then-at-out v ↦ omega (arith, as_long w)
      | then-at-out-via-else-at-out+then-len-out v ↦ omega (arith, as_long w)
    ]
    in rw (word_is w) record { size = as_long w; text = put-not a.out.now a.at _ past }

pub bytes-requires : goal.bytes-requires
bytes-requires c = omega (arith, c.head_width.ensures.is_length, c.head.ensures.text)

pub bytes-requires-2 : goal.bytes-requires-2
bytes-requires-2 c = omega (arith, c.head_width.ensures.is_length, c.head.ensures.text, c.bytes.ensures.text)

pub number-requires : goal.number-requires
number-requires c =
    omega (arith, c.head_width.ensures.is_length, c.width.ensures.is_width, c.head.ensures.text, c.bytes.ensures.text, c.bytes-2.ensures.text)

pub bytes-requires-3 : goal.bytes-requires-3
bytes-requires-3 c =
    let head = c.head.ensures.text in
    let word = c.bytes.ensures.text in
    let space = c.bytes-2.ensures.text in
    let x = c.number.ensures.text in
    omega (arith, c.head_width.ensures.is_length, c.width.ensures.is_width, head, word, space, x, length-decimal c.args.x)

pub returns : goal.returns
returns c =
    let a = c.args in
    let w = (goal.at.returns c).After-width in
    let word = take c.min.result a.letters.now in
    let text = line_put a.head word a.x c.head.ensures.text c.bytes.ensures.text c.bytes-2.ensures.text c.number.ensures.text c.bytes-3.ensures.text in
    rw (word_is w) record { size = as_long w; text = search rules ∙ text ∙ put-fits a.out.now a.at _ (omega (arith, as_long w)) }
