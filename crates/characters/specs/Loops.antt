-- What holds at each turn of the loop, over plain values.
-- Assumes nothing.
use Rattle.std.specs.Prelude.{ℕ, ◌≤◌, ◌≡◌, true, List, length, take}
use Rattle.runs.specs.Run.{placed}
use Rattle.characters.specs.Characters.{bits_in, goes_on}

-- sifting: the bits of the characters read stand at the start, and the rest is as it was
pub record Sifting (whole run : List ℕ) (read write : ℕ) : Type 0 where
  pub within : read ≤ length whole
  pub onward : goes_on (take read whole) ≡ true
  pub kept : write ≡ length (bits_in (take read whole))
  pub so_far : run ≡ placed 0 (bits_in (take read whole)) whole
