-- What the parts of a write work with: a quarter of the 64 bits.
-- Assumes nothing.
use Rattle.std.specs.Prelude.{ℕ, ◌+◌, ◌*◌, ◌/◌, ◌%◌, ◌≤◌, ◌≡◌}
use Rattle.rates.specs.declared.types.Flag.{Flag}
use Rattle.layout.specs.Flags.{bit_of}

-- sixteen of the bits: units, a group, tens and two flags, a group; and how large they can be
pub record QuarterOf (number low : ℕ) (first second : Flag) (high q : ℕ) : Type 0 where
  pub whole : q ≡ number % 10 + (16 * low + (256 * (number / 10 + (4 * bit_of first + 8 * bit_of second)) + 4096 * high))
  pub small : q ≤ 9 + (16 * low + (256 * (number / 10 + (4 * bit_of first + 8)) + 4096 * high))
  pub flag : bit_of first ≤ 1
