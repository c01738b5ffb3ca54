-- Characters by their numbers.
-- Assumes nothing.
use Rattle.std.specs.Prelude.{ℕ}

abbrev pub line_feed : ℕ
line_feed = 10

abbrev pub space : ℕ
space = 32

abbrev pub zero_digit : ℕ
zero_digit = 48

abbrev pub upper_a : ℕ
upper_a = 65
