-- Numbers in decimal, and lines, computed.
use Rattle.std.specs.Prelude.{◌≡◌, refl}
use Rattle.text.specs.Text.{greatest, width_in, width_of, digits, decimal, bytes, last_line, line}

pub zero_is : decimal 0 ≡ bytes "0"
unfolding decimal digits width_of width_in
zero_is = refl

pub ten_is : decimal 10 ≡ bytes "10"
unfolding decimal digits width_of width_in
ten_is = refl

pub greatest_is : decimal greatest ≡ bytes "18446744073709551615"
unfolding decimal digits width_of width_in
greatest_is = refl

pub first-line : line 1 (bytes "ready") 2 ≡ bytes "1 ready 2\n"
unfolding line last_line decimal digits width_of width_in
first-line = refl
