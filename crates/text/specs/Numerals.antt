-- Numbers as text.
-- Assumes nothing.
use Rattle.std.specs.Prelude.{ℕ, zero, suc, ◌+◌, ◌-◌, ◌/◌, ◌%◌, cond, List, [], ◌∷◌, ◌++◌, ltb}
use Rattle.text.specs.Ascii.{zero_digit, upper_a}

-- the character of a number's last decimal digit
abbrev pub last_digit : ℕ → ℕ
last_digit n = zero_digit + n % 10

-- a number in decimal with no zeros in front, if it has at most so many digits
unfoldable pub decimal_within : ℕ → ℕ → List ℕ
decimal_within zero n = []
decimal_within (suc k) n = cond (ltb n 10) (last_digit n ∷ []) (decimal_within k (n / 10) ++ (last_digit n ∷ []))

-- a 64-bit number has at most 20 decimal digits
abbrev pub decimal : ℕ → List ℕ
decimal n = decimal_within 20 n

-- "upper-case hex": the character of a number's last hex digit
unfoldable pub hex_digit : ℕ → ℕ
hex_digit n = cond (ltb (n % 16) 10) (zero_digit + n % 16) (upper_a + (n % 16 - 10))
