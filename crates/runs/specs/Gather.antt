-- The number that a run of at most 64 bits stands for, low bit first.
-- Assumes nothing.
use Rattle.std.specs.Prelude.{ℕ, cond, List, ltb, length, Result, Ok, Err}
use Rattle.bits.specs.Bits.{value, some_above}
use Rattle.runs.specs.declared.types.NoNumber.{NoNumber}
use Rattle.runs.specs.declared.types.NoNumber.TheVariants.{TooLong, NoBit}

-- more than 64 elements are too long, whatever they hold; an element above 1 is no bit
unfoldable pub gathered_of : List ℕ → Result ℕ NoNumber
gathered_of run = cond (ltb 64 (length run)) (Err TooLong) (cond (some_above 1 run) (Err NoBit) (Ok (value run)))
